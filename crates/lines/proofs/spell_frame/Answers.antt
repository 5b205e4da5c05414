use Rattle.lines.proofs.FrameLaws.{size_most, frame_there, frame_none, frame_past, frame_chained, tried_past, tried_chained, tried_all}
use Rattle.tables.specs.Choice.{and_yes}
use Rattle.text.specs.Hex.{leading}
use Rattle.lines.specs.Frames.{tried}
use Rattle.wire.specs.Bytes.{part, laid, Shows}
use Prim.Native.Nat.{ℕ, ◌+◌, ◌-◌, ◌*◌, ◌≤◌}
use borrow.Author.Rules.{rules}
use borrow.Author.Tests.{ltb-true, eqb-true}
use lib.Dec.{eqb, ltb}
use lib.ListN.{length, take, drop, get_or, length-drop}
use lib.Seq.{take_all, get_or-drop}
use mathlib.Core.Bool.{◌&&◌}
use mathlib.Core.List.{List}
use mathlib.Core.Path.{◌≡◌, ap, sym, ◌∙◌}
use native.Mathlib.Omega.{arith}
use Rattle.lines.proofs.spell_frame.Goals as goal
use Rattle.lines.proofs.spell_frame.Goals.{After-spell-size}

-- ---- the digits from place at on are spelt
module _ (k : After-spell-size) where
  abbrev text : List ℕ
  text = k.args.text.now

  abbrev from : List ℕ
  from = drop k.args.at text

  room : length k.args.bytes.now ≡ 512
  room = search rules

  behind : from ≡ part text k.args.at (length text)
  behind =
      let l = length-drop k.args.at text in
      sym (take_all (length text - k.args.at) from (omega arith))

  shown : Shows (take (length k.args.bytes.now) (leading from)) k.args.bytes.now k.spell-size.new.out k.spell-size.result
  shown = rw behind k.spell-size.ensures

  most : (k.spell-size.result ≤ 512) × (2 * k.spell-size.result ≤ length from)
  most = size_most from k.args.bytes.now _ _ room shown

  -- all of them are laid
  over : k.spell-size.new.out ≡ laid k.args.bytes.now 0 (tried from)
  over =
      tried_all from k.args.bytes.now _ _ room shown (sym k.if-is_chained.false ∙ k.is_chained.ensures)

  -- the character behind them
  next : (i : ℕ) → get_or text (k.args.at + i) 0 ≡ get_or from i 0
  next i = sym (get_or-drop k.args.at text i 0)

-- ---- the needs
pub returns-then-text-at : goal.returns-then-text-at
returns-then-text-at c =
    let a = c.args in
    record { frame = sym (frame_past a.text.now a.at c.if-text-at.true); spelt = tried_past a.text.now a.bytes.now a.at c.if-text-at.true }

pub returns-then-is_chained : goal.returns-then-is_chained
returns-then-is_chained c =
    let a = c.args in
    let s = drop a.at a.text.now in
    let y = sym c.is_chained.ensures ∙ c.if-is_chained.true in
    record { frame = sym (frame_chained s y); spelt = tried_chained s a.bytes.now y }

pub overflow_mul-size : goal.overflow_mul-size
overflow_mul-size c = omega (arith, (most (goal.at.overflow_mul-size c).After-spell-size).0)

pub overflow_add-at : goal.overflow_add-at
overflow_add-at c = let l = length-drop c.args.at (text (goal.at.overflow_add-at c).After-spell-size) in record { fits = omega (arith, (most (goal.at.overflow_add-at c).After-spell-size).1, c.well_formed) }

pub returns-then-size-byte_at : goal.returns-then-size-byte_at
returns-then-size-byte_at c =
    let k = (goal.at.returns-then-size-byte_at c).After-spell-size in
    let r = c.spell-size.result in
    let a = and_yes (ltb 0 r) (eqb c.byte_at.result 0x0A) c.if-size-byte_at.true in
    let some = ltb-true _ _ a.0 in
    let end = sym (next k (2 * r)) ∙ (sym c.byte_at.ensures ∙ eqb-true _ _ a.1) in
    let there = frame_there (from k) c.args.bytes.now _ _ (room k) (shown k) some end in
    record { frame = (some, there.0, there.1); spelt = over k }

pub returns : goal.returns
returns c =
    let k = (goal.at.returns c).After-spell-size in
    let r = c.spell-size.result in
    let n = ap (λ (b : ℕ). ltb 0 r && eqb b 0x0A) (sym (c.byte_at.ensures ∙ next k (2 * r))) ∙ c.if-size-byte_at.false in
    record { frame = sym (frame_none (from k) c.args.bytes.now _ _ (room k) (shown k) n); spelt = over k }
