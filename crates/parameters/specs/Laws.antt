-- The test of a long read as the code asks it.
use Rattle.std.specs.Prelude.{ℕ, ◌-◌, ◌+◌, Bool, true, false, not, List, ◌≡◌, eqb, ltb}
use Rattle.std.proofs.Math.Path.{refl, sym}
use Rattle.std.proofs.Common.{◌∙◌, ltb-true, ltb-false, lt-ltb, le-ltb, ne_eqb, arith}
use Rattle.std.proofs.lemmas.Bool.{not-true}
use Rattle.tables.specs.Choice.{and_left, and_right}
use Rattle.roles.specs.declared.Role.{Role}
use Rattle.roles.specs.Roles.{size_of}
use Rattle.datafiles.specs.Files.{end_of}
use Rattle.columns.specs.Table.{read_data}
use Rattle.frames.specs.Frame.{offset_of, length_of}
use Rattle.rows.specs.Rows.{maced_read, long_read}

-- more than n bytes, counted from the offset
past : (n off end : ℕ) → ltb (off + n) end ≡ ltb n (end - off)
past n off end = by (ltb n (end - off)) refl
  where
    by : (b : Bool) → ltb n (end - off) ≡ b → ltb (off + n) end ≡ b
    by true e = let h = ltb-true n (end - off) e in lt-ltb (off + n) end (omega arith)
    by false e = let h = ltb-false n (end - off) e in le-ltb (off + n) end (omega arith)

module _ (m : Bool) (i : ℕ) (r : Role) (d : List ℕ) where
  pub long_other : (i ≡ read_data → ⊥) → false ≡ long_read m i r d
  unfolding long_read
  long_other n = sym (and_left (eqb i read_data) _ (ne_eqb _ _ n))

  pub long_plain : not m ≡ true → false ≡ long_read m i r d
  unfolding long_read
  long_plain e = sym (and_right (eqb i read_data) _ (and_left m _ (not-true m e)))

  pub long_by : {off len end : ℕ} → i ≡ read_data → m ≡ true → off ≡ offset_of d → len ≡ length_of d → end ≡ end_of (size_of r) off len
      → ltb (off + maced_read) end ≡ long_read m i r d
  unfolding long_read
  long_by {off} {end = end} ei em eo el ee = past maced_read off end ∙ rw (ei, em, ee, el, eo) refl
