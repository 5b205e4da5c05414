-- The paper's decision, which does not tell one grant from another, and that places 8 and 9 see no difference.
use Rattle.std.specs.Prelude.{ℕ, Bool, true, false, ◌&&◌, ◌||◌, ◌≡◌, refl, eqb, Option}
use Rattle.std.proofs.Common.{ap, ◌∙◌}
use Rattle.tables.specs.Choice.{pick}
use Rattle.access.specs.declared.Access.{Access}
use Rattle.access.specs.declared.Access.TheVariants.{Never, NotGranted, FreeOnly, ByKey}
use Rattle.access.specs.Rights.{free, read_of, write_of, read_write_of, key_of, sealed, granting, access_of, access_status}

-- a condition is free or equals the session key
abbrev pub opens : Option ℕ → ℕ → Bool
opens s n = eqb n free || eqb n (key_of s)

abbrev pub granted : ℕ → Option ℕ → Bool → Bool → Bool
granted x s by_read by_write = (by_read && opens s (read_of x)) || (by_write && opens s (write_of x)) || opens s (read_write_of x)

-- every grant told as one
unfoldable pub undivided : ℕ → Option ℕ → Bool → Bool → Bool → Access
undivided x s by_read by_write always = pick (sealed x by_read by_write) Never (pick (always || granted x s by_read by_write) ByKey NotGranted)

spread : (r a b : Bool) → (r && (a || b)) ≡ ((r && a) || (r && b))
spread true a b = refl
spread false a b = refl

paired : (a b c d : Bool) → ((a || b) || (c || d)) ≡ ((a || c) || (b || d))
paired true b c d = refl
paired false true true d = refl
paired false true false d = refl
paired false false c d = refl

apart : (r w a b c d e f : Bool) → ((r && (a || b)) || (w && (c || d)) || (e || f)) ≡ (((r && a) || (w && c) || e) || ((r && b) || (w && d) || f))
apart r w a b c d e f =
    ap (λ (x : Bool). x || (w && (c || d)) || (e || f)) (spread r a b)
    ∙ ap (λ (x : Bool). (r && a || r && b) || x || (e || f)) (spread w c d)
    ∙ ap (λ (x : Bool). x || (e || f)) (paired (r && a) (r && b) (w && c) (w && d))
    ∙ paired (r && a || w && c) (r && b || w && d) e f

told_apart : (x : ℕ) (s : Option ℕ) (by_read by_write : Bool) → granted x s by_read by_write ≡ (granting free x by_read by_write || granting (key_of s) x by_read by_write)
unfolding granting
told_apart x s by_read by_write = apart by_read by_write _ _ _ _ _ _

-- the status that an answer leads to is the same
pub same_status : (x : ℕ) (s : Option ℕ) (by_read by_write always : Bool) → access_status (undivided x s by_read by_write always) ≡ access_status (access_of x s by_read by_write always)
unfolding undivided access_of pick
same_status x s by_read by_write always = rw (told_apart x s by_read by_write) (by (sealed x by_read by_write) (granting (key_of s) x by_read by_write) always (granting free x by_read by_write))
  where
    by : (never key always free : Bool)
        → access_status (pick never Never (pick (always || (free || key)) ByKey NotGranted))
        ≡ access_status (pick never Never (pick key ByKey (pick (always || free) FreeOnly NotGranted)))
    by true key always free = refl
    by false true true free = refl
    by false true false true = refl
    by false true false false = refl
    by false false true free = refl
    by false false false true = refl
    by false false false false = refl
