-- Laws of a reply in a lent buffer, and of the replies in a chain.
use Rattle.std.specs.Prelude.{ℕ, ◌-◌, ◌≤◌, Bool, List, ◌++◌, ◌≡◌, refl, Option, None, is_none, length, take, drop}
use Rattle.std.proofs.Common.{sym, ap, subst, ◌∙◌, arith}
use Rattle.std.proofs.lemmas.List.{take-append-le}
use Rattle.std.proofs.Math.Nat.{sub-zero}
use Rattle.tables.specs.Choice.{pick, pick_both}
use Rattle.wire.specs.Bytes.{part, word}
use Rattle.wire.proofs.Laws.{length_part, front_laid, front_fits}
use Rattle.refusals.specs.declared.Refusal.{Refusal}
use Rattle.books.specs.declared.Books.{Books}
use Rattle.answers.specs.Answers.{reply_text}
use Rattle.notices.specs.declared.Notice.{Notice}
use Rattle.notices.specs.Notices.{notice_text}
use Rattle.card.specs.declared.Card.{Card}
use Rattle.card.specs.declared.Reply.{Reply}
use Rattle.card.specs.View.{broken}
use Rattle.card.specs.Outcome.{Outcome, reply_of, Answered, bench}
use Rattle.card.specs.Events.{Played, refused, laid_into, bench_refusal, benched, opening, opening_played, chain_opened, delivered, bytes_played, bytes_sent}
use Rattle.desk.specs.Room.{most_room, lent_room}
use Rattle.desk.specs.Laws.{lent_most}

-- ---- a reply read back from the part of the buffer that was lent; f is the outcome by the length of that part

-- the reply r is that of the outcome o, and its bytes lie at the front of a buffer
abbrev pub Plays : Outcome → List ℕ → Reply → Type 0
Plays o after r = (r ≡ reply_of o) × (take (length o.out) after ≡ o.out) × (length o.out ≤ most_room)

plays_part : (f : ℕ → Outcome) (reply after : List ℕ) (room : ℕ) (r : Reply) → room ≤ most_room → most_room ≤ length reply
    → length after ≡ length (part reply 0 room) → Answered (f (length (part reply 0 room))) (part reply 0 room) after r
    → Plays (f room) (after ++ drop (room - 0) reply) r
plays_part f reply after room r h k l a =
    let n : length (part reply 0 room) ≡ room = length_part reply 0 room (omega arith) ∙ sub-zero room in
    let o = f room in
    let b : Answered o (part reply 0 room) after r = rw n at a in
    let x : length o.out ≤ length (part reply 0 room) = front_fits (part reply 0 room) o.out (ap length (sym b.1) ∙ l) in
    let t : take (length o.out) after ≡ o.out = rw b.1 (front_laid (part reply 0 room) o.out) in
    (b.0, take-append-le (length o.out) after (drop (room - 0) reply) (omega arith) ∙ t, omega arith)

pub plays_lent : (f : ℕ → Outcome) (reply after : List ℕ) (m room : ℕ) (r : Reply) → room ≡ lent_room m → most_room ≤ length reply
    → length after ≡ length (part reply 0 room) → Answered (f (length (part reply 0 room))) (part reply 0 room) after r
    → Plays (f (lent_room m)) (after ++ drop (room - 0) reply) r
plays_lent f reply after m room r e k l a =
    subst (λ (n : ℕ). Plays (f n) (after ++ drop (room - 0) reply) r) e (plays_part f reply after room r (omega (arith, lent_most m)) k l a)

-- the bytes of a reply where it lies
pub reply_bytes : (o : Outcome) (after : List ℕ) (r : Reply) → Plays o after r → (part after 0 r.len ≡ o.out) × (r.len ≤ most_room)
unfolding reply_of
reply_bytes o after r p =
    let n : r.len ≡ length o.out = ap (λ (x : Reply). x.len) p.0 in
    (rw (sub-zero r.len, n) p.1, rw n p.2)

-- ---- in a chain a reply is a status word or nothing

abbrev pub Short : List ℕ → Type 0
Short x = (length x ≡ 0 → ⊥) → length x ≡ 2

-- and a bench refusal has none
abbrev pub Brief : Option Refusal → List ℕ → Type 0
Brief refusal x = (length x ≡ 0 → ⊥) → (refusal ≡ None) × (length x ≡ 2)

-- the notice n shows the reply x, beside any books
abbrev pub Tells : Notice → Option Refusal → List ℕ → Type 0
Tells n refusal x = (b : Books) → notice_text n b ≡ reply_text refusal x

played_brief : (c : Card) (room : ℕ) (b : Bool) (p q : Played) → Short p.out → Short q.out → let o = benched c room (pick b p q) in Brief o.refusal o.out
unfolding laid_into bench
played_brief c room b p q h k =
    pick_both (λ (o : Outcome). Brief o.refusal o.out) (is_none (bench_refusal (broken c) room)) (laid_into c (pick b p q)) (bench c (bench_refusal (broken c) room))
    (λ e. (refl, pick_both (λ (x : Played). Short x.out) b p q h k e))
    (λ e. absurd (e refl))

pub opening_brief : (c : Card) (f : List ℕ) (room : ℕ) → let o = chain_opened c f room in Brief o.refusal o.out
unfolding chain_opened opening_played opening refused word
opening_brief c f room = played_brief c room _ _ _ (λ e. absurd (e refl)) (λ e. refl)

pub bytes_brief : (c : Card) (b : List ℕ) (room : ℕ) → let o = bytes_sent c b room in Brief o.refusal o.out
unfolding bytes_sent bytes_played delivered refused word
bytes_brief c b room = played_brief c room _ _ _ (pick_both Short _ _ _ (λ e. refl) (λ e. absurd (e refl))) (λ e. refl)
