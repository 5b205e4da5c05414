-- A run at a line: its answer does not fit, or was added.
use Prim.Native.Nat.{ℕ, ◌+◌, ◌-◌, ◌*◌, ◌≤◌, ◌<◌}
use Rattle.std.specs.Prelude.{Option, Some, None}
use mathlib.Core.List.{List, [], ◌∷◌, ◌++◌}
use mathlib.Core.Path.{◌≡◌, refl, sym, ap, ◌∙◌}
use borrow.Author.Tests.{le-leb}
use Rattle.std.specs.Prelude.{Option, is_none}
use Rattle.refusals.specs.declared.Refusal.{Refusal}
use Rattle.refusals.specs.Numbers.{number_of}
use lib.ListN.{length, drop, length-append}
use native.Mathlib.Omega.{arith}
use Rattle.tables.specs.Choice.{pick_cases, picked, passed}
use Rattle.wire.specs.Bytes.{part}
use Rattle.text.specs.Shown.{in_room, Adds}
use Rattle.text.specs.Hex.{in_digits}
use Rattle.text.specs.Laws.{length_digits}
use Rattle.lines.specs.Lines.{line_length, lines_after, Said, went, Goes}
use Rattle.lines.specs.Frames.{frame_in, Found}
use Rattle.lines.specs.Laws.{Ends}
use Rattle.lines.proofs.Laws.{line_ends}
use Rattle.lines.specs.FrameLaws.{Frame}
use Rattle.lines.proofs.FrameLaws.{frame_line, no_frame}
use Rattle.lines.specs.Sofar.{Sofar}
use Rattle.lines.proofs.Sofar.{sofar_full, sofar_next, sofar_as}
use Rattle.answers.specs.Answers.{numbered, reply_text, reply_line}
use Rattle.card.specs.declared.Reply.{Reply}
use Rattle.card.specs.Outcome.{Outcome, reply_of}
use Rattle.desk.specs.declared.Desk.{Desk}
use Rattle.told.specs.declared.Told.{Told}
use Rattle.desk.specs.After.{after_event}
use Rattle.told.specs.Told.{said_of, replied}
use Rattle.told.specs.Laws.{Plays, reply_bytes}
use Rattle.letters.specs.Letters.{other_said}
use Rattle.script.specs.Lines.{commanded_on, line_said}

-- ---- a line that is answered by a reply

module _ (k : Desk) (l : List ℕ) (o : Outcome) (r : Reply) (after : List ℕ) (e : line_said k l ≡ replied k o) (p : Plays o after r) where
  text : (line_said k l).out ≡ reply_text r.refusal (part after 0 r.len)
  unfolding replied reply_of
  text =
      let b = (reply_bytes o after r p).0 in
      let m : r.refusal ≡ o.refusal = ap (λ (x : Reply). x.refusal) p.0 in
      ap (λ (x : Said Desk). x.out) e ∙ rw (b, m) refl

  desk : after_event k r.card r.stored ≡ (line_said k l).next
  unfolding replied reply_of
  desk = ap (λ (x : Reply). after_event k x.card x.stored) p.0 ∙ sym (ap (λ (x : Said Desk). x.next) e)

-- ---- a desk and the card of a run

pub own_state : (k : Desk) → after_event k k.card k.stored ≡ k
unfolding after_event
own_state k = refl

-- where there is room for every answer, one is written
pub written : (out x : List ℕ) (n m : ℕ) (r : Option Refusal) (bytes : List ℕ) → Adds (in_room (length out - n) (reply_line r bytes)) out n x m
    → length bytes ≤ 512 → 1025 ≤ length out - n → m ≡ n → ⊥
unfolding in_room reply_line reply_text numbered
written out x n m r bytes a h room e =
    let t : length (reply_text r bytes) ≤ 1024 = pick_cases (λ (l : List ℕ). length l ≤ 1024) (is_none r) (in_digits bytes) (numbered (number_of r)) (λ z. omega (arith, length_digits bytes)) (λ z. omega arith) in
    let l = length-append (reply_text r bytes) (0x0A ∷ []) in
    let p : in_room (length out - n) (reply_line r bytes) ≡ reply_line r bytes = picked _ _ (le-leb (length (reply_line r bytes)) (length out - n) (omega arith)) in
    omega (arith, a.1, ap length p)

-- a look for a frame that finds none
pub none_found : (frame buffer : List ℕ) (found : Option ℕ) → ((n : ℕ) → found ≡ Some n → ⊥) → Found frame buffer found → frame ≡ []
none_found frame buffer (Some n) some f = absurd (some n refl)
none_found frame buffer None some f = f

-- ---- a run that has come to place at

module _ (k₀ : Desk) (t b : List ℕ) (k : Desk) (at n : ℕ) (out : List ℕ) (s : Sofar line_said k₀ t b k at n out) where
  -- where a frame of size bytes stands: a command, whose reply is r, in the buffer back
  module _ (size : ℕ) (p : 0 < size) (q : size ≡ length (frame_in (drop at t))) where
    pub line : Frame t at size
    line = frame_line t at size s.place q p

    module _ (f : List ℕ) (w : f ≡ frame_in (drop at t)) (back : List ℕ) (r : Reply) (v : Plays (commanded_on k f) back r) where
      command : line_said k (part t at (at + 2 * size)) ≡ replied k (commanded_on k f)
      unfolding line_said
      command = picked _ _ line.2 ∙ ap (λ (x : List ℕ). replied k (commanded_on k x)) (line.3 ∙ sym w)

      module _ (x : List ℕ) (m : ℕ) (a : Adds (in_room (length out - n) (reply_line r.refusal (part back 0 r.len))) out n x m) where
        said : Adds (in_room (length out - n) ((line_said k (part t at (at + 2 * size))).out ++ 0x0A ∷ [])) out n x m
        unfolding reply_line
        said = rw (text k (part t at (at + 2 * size)) _ r back command v) a

        pub played_full : m ≡ n → Goes (went line_said k₀ (lines_after [] t) (length b)) b x k at n
        played_full z = sofar_full line_said k₀ t b k at n out s _ line.0 (omega arith) line.1 x m said z

        pub played_next : (m ≡ n → ⊥) → Sofar line_said k₀ t b (after_event k r.card r.stored) (at + 2 * size + 1) m x
        played_next z = sofar_as line_said k₀ t b _ _ _ m x (desk k (part t at (at + 2 * size)) _ r back command v) (sofar_next line_said k₀ t b k at n out s _ line.0 (omega arith) line.1 x m said z)

  -- where none does: another line, up to place e
  module _ (z : frame_in (drop at t) ≡ []) (e : ℕ) (g : e ≡ at + line_length (drop at t)) where
    pub ends : Ends t at e
    ends = line_ends t at s.place g

    module _ (i : e < length t) (d : Told) (c : said_of d ≡ other_said k (part t at e)) where
      other : said_of d ≡ line_said k (part t at e)
      unfolding line_said
      other = c ∙ sym (passed _ _ (no_frame t at 0 s.place (sym (ap length z)) refl e g i))

      module _ (x : List ℕ) (m : ℕ) (a : Adds (in_room (length out - n) ((said_of d).out ++ 0x0A ∷ [])) out n x m) where
        told : Adds (in_room (length out - n) ((line_said k (part t at e)).out ++ 0x0A ∷ [])) out n x m
        told = rw other at a

        pub told_full : m ≡ n → Goes (went line_said k₀ (lines_after [] t) (length b)) b x k at n
        told_full y = sofar_full line_said k₀ t b k at n out s e ends.0 ends.1 i x m told y

        pub told_next : (m ≡ n → ⊥) → Sofar line_said k₀ t b d.desk (e + 1) m x
        unfolding said_of
        told_next y = sofar_as line_said k₀ t b _ _ _ m x (ap (λ (v : Said Desk). v.next) other) (sofar_next line_said k₀ t b k at n out s e ends.0 ends.1 i x m told y)
