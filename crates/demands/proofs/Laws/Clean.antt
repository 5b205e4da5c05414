-- A channel without a session holds no byte of one, through every step.
use Rattle.std.specs.Prelude.{ℕ, false, List, ◌≡◌, refl}
use Rattle.std.proofs.Common.{true≢false, sym, ap, subst}
use Rattle.tables.specs.Choice.{pick_both}
use Rattle.keys.specs.declared.Keys.{Keys}
use Rattle.chains.specs.declared.Chain.{Chain}
use Rattle.channel.specs.declared.Stage.{Stage}
use Rattle.channel.specs.declared.Stage.TheVariants.{Closed, Bench, Waiting, Real}
use Rattle.channel.specs.declared.Channel.{Channel}
use Rattle.channel.specs.declared.Inputs.{Inputs}
use Rattle.channel.specs.Channel.{is_real, is_waiting, counted_up, counted, bare, chained, advanced}
use Rattle.authentication.specs.Authentication.{begun, opened}
use Rattle.card.specs.Events.{channel_after}
use Rattle.demands.specs.Demands.{Clean}

pub bare_clean : (g : Stage) → Clean (bare g)
unfolding bare chained
bare_clean g r w = refl

-- a counter that goes up is that of a real session
still : (g : Stage) → is_real (counted_up g) ≡ false → counted_up g ≡ g
still Closed r = refl
still (Bench k) r = refl
still (Waiting k) r = refl
still (Real k n) r = absurd (true≢false r)

counted_clean : (k : Channel) → Clean k → Clean (counted k)
unfolding counted chained
counted_clean k h r w =
    let e = still k.stage r in
    let q = h (subst (λ (g : Stage). is_real g ≡ false) e r) (subst (λ (g : Stage). is_waiting g ≡ false) e w) in
    subst (λ (g : Stage). record { stage = g; secret = k.secret; ti = k.ti; caps = k.caps; chain = k.chain } ≡ chained (bare g) k.chain) (sym e) q

pub chained_clean : (k : Channel) (x : Chain) → Clean k → Clean (chained k x)
unfolding chained
chained_clean k x h r w = ap (λ (y : Channel). chained y x) (h r w)

pub advanced_clean : (k : Channel) (n : ℕ) → Clean k → Clean (advanced k n)
unfolding advanced
advanced_clean k n h = pick_both Clean _ _ _ (counted_clean _ (chained_clean k _ h)) (chained_clean k _ h)

pub after_clean : (ks : Keys) (u : Inputs) (i : ℕ) (d : List ℕ) (k : Channel) → Clean k → Clean (channel_after ks u i d k)
unfolding channel_after
after_clean ks u i d k h =
    pick_both Clean _ _ _ (unfold begun in λ r w. absurd (true≢false w)) (pick_both Clean _ _ _ (unfold opened in λ r w. absurd (true≢false r)) (counted_clean k h))
