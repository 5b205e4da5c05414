-- The tests of a MAC and of a second part as the code asks them.
use Rattle.std.specs.Prelude.{ℕ, Bool, true, false, not, ◌&&◌, List, ◌≡◌, eqb, length}
use Rattle.std.proofs.Math.Path.{refl, sym}
use Rattle.std.proofs.Common.{◌∙◌, ne_eqb}
use Rattle.std.proofs.lemmas.Bool.{not-true}
use Rattle.tables.specs.Choice.{and_left}
use Rattle.wire.specs.Bytes.{same}
use Rattle.keys.specs.declared.Keys.{Keys}
use Rattle.keys.specs.Keys.{key_at}
use Rattle.handshake.specs.Handshake.{fails}
use Rattle.channel.specs.declared.Channel.{Channel}
use Rattle.channel.specs.Channel.{stage_key, counter_of}
use Rattle.columns.specs.Table.{authenticate_second}
use Rattle.sealing.specs.Sealing.{seal_of}
use Rattle.modes.specs.Modes.{plain_of, mac_of}
use Rattle.rows.specs.Rows.{part_fails, forged}

pub forged_by : (ch : Channel) (i : ℕ) (x : List ℕ) {m s : Bool} {n : ℕ} {p t r : List ℕ} → m ≡ true → n ≡ counter_of ch.stage → p ≡ plain_of m x
    → r ≡ seal_of ch.secret i n ch.ti p → t ≡ mac_of x → s ≡ same t r → not s ≡ forged ch m i x
unfolding forged
forged_by ch i x em en ep er et es = rw (es, et, er, ep, en, em) refl

pub forged_plain : (ch : Channel) (m : Bool) (i : ℕ) (x : List ℕ) → not m ≡ true → false ≡ forged ch m i x
unfolding forged
forged_plain ch m i x e = sym (and_left m _ (not-true m e))

module _ (ks : Keys) (ch : Channel) (i : ℕ) (d : List ℕ) where
  pub fails_other : (i ≡ authenticate_second → ⊥) → false ≡ part_fails ks ch i d
  unfolding part_fails
  fails_other n = sym (and_left (eqb i authenticate_second) _ (ne_eqb _ _ n))

  pub fails_by : {k : ℕ} {key : List ℕ} {r : Bool} → i ≡ authenticate_second → k ≡ stage_key ch.stage → key ≡ key_at ks k
      → r ≡ (eqb (length d) 32 && fails key ch.secret d) → r ≡ part_fails ks ch i d
  unfolding part_fails
  fails_by ei ek eq er = er ∙ rw (ei, eq, ek) refl
