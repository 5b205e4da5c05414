use Rattle.std.proofs.Common.{rules, List, ℕ, get_or, ap, ◌∙◌}
use Rattle.lookup.specs.Tables.{tabled}
use Rattle.lookup.proofs.Made.{made}
use Rattle.aes.specs.Column.{lifted}
use Rattle.aes.proofs.steps.columnwise.Goals as goal

pub returns : goal.returns
returns g c = λ h m.
    let a = c.args.a in
    let b = c.lifted-b.ensures in
    let p = c.lifted-c.ensures ∙ ap lifted b in
    let q = c.lifted-d.ensures ∙ ap lifted p in
    let whole : List ℕ → List ℕ → List ℕ → List ℕ = λ u v w. tabled 16 (λ i. h (get_or a i 0) (get_or u i 0) (get_or v i 0) (get_or w i 0)) in
    made _ _ (λ i. h (get_or a i 0) (get_or c.lifted-b.result i 0) (get_or c.lifted-c.result i 0) (get_or c.lifted-d.result i 0)) 16 _
    (λ i y f' l k. search (rules, m)) c.from_fn.ensures.items
    ∙ (λ j. whole (b j) (p j) (q j))
