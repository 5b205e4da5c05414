-- What the standing rules say of a channel, with the sizes of its bytes, and that every step keeps it.
use Rattle.std.specs.Prelude.{ℕ, Bool, true, false, ◌&&◌, ◌≡◌, leb, Option, None, Some}
use Rattle.std.proofs.lemmas.Bool.{false≢true}
use Rattle.std.proofs.Math.Path.{refl}
use Rattle.tables.specs.Choice.{pick_cases, and_right}
use Rattle.access.specs.Rights.{last_key, session_sound}
use Rattle.chains.specs.declared.Chain.{Chain}
use Rattle.chains.specs.Chain.{unchained, is_open, completes, shortened, chain_sound}
use Rattle.chains.specs.Laws.{none_sound, ranged, shortened_sound}
use Rattle.channel.specs.declared.Stage.{Stage}
use Rattle.channel.specs.declared.Stage.TheVariants.{Closed, Bench, Waiting, Real}
use Rattle.channel.specs.declared.Channel.{Channel}
use Rattle.channel.specs.Channel.{stage_of, stage_sound, is_waiting, stage_key, counted_up, counted, bare, chained, advanced}
use Rattle.channel.specs.Fitting.{Fitting}

pub bare_fitting : (g : Stage) → stage_sound g ≡ true → Fitting (bare g)
unfolding bare unchained
bare_fitting g e = record { known = e; secret = refl; ti = refl; caps = refl; chain = unfold unchained in none_sound; free = refl }

pub bench_sound : (k : Option ℕ) → session_sound k ≡ true → stage_sound (stage_of k) ≡ true
bench_sound None e = refl
bench_sound (Some k) e = e

pub key_sound : (g : Stage) → stage_sound g ≡ true → leb (stage_key g) last_key ≡ true
key_sound Closed e = refl
key_sound (Bench k) e = refl
key_sound (Waiting k) e = e
key_sound (Real k n) e = e

counted_sound : (g : Stage) → stage_sound g ≡ true → stage_sound (counted_up g) ≡ true
counted_sound Closed e = e
counted_sound (Bench k) e = e
counted_sound (Waiting k) e = e
counted_sound (Real k n) e = e

counted_waits : (g : Stage) → is_waiting (counted_up g) ≡ is_waiting g
counted_waits Closed = refl
counted_waits (Bench k) = refl
counted_waits (Waiting k) = refl
counted_waits (Real k n) = refl

pub counted_fitting : (k : Channel) → Fitting k → Fitting (counted k)
unfolding counted
counted_fitting k h =
    record { known = counted_sound k.stage h.known; secret = h.secret; ti = h.ti; caps = h.caps; chain = h.chain; free = rw (counted_waits k.stage) h.free }

-- ---- a chain

pub chained_fitting : (k : Channel) (x : Chain) → Fitting k → chain_sound x ≡ true → (is_open x && is_waiting k.stage) ≡ false → Fitting (chained k x)
unfolding chained
chained_fitting k x h s w = record { known = h.known; secret = h.secret; ti = h.ti; caps = h.caps; chain = s; free = w }

pub advanced_fitting : (c : Channel) (n : ℕ) → Fitting c → is_open c.chain ≡ true → Fitting (advanced c n)
unfolding advanced
advanced_fitting c n h o =
    let w : is_waiting c.stage ≡ false = and_free (is_open c.chain) _ o h.free in
    let f = chained_fitting c (shortened c.chain n) h (shortened_sound c.chain n (ranged c.chain h.chain o)) (and_right (is_open (shortened c.chain n)) _ w) in
    pick_cases Fitting (completes c.chain n) _ _ (λ _. counted_fitting (chained c (shortened c.chain n)) f) (λ _. f)
  where
    and_free : (a b : Bool) → a ≡ true → (a && b) ≡ false → b ≡ false
    and_free true b e h = h
    and_free false b e h = absurd (false≢true e)
