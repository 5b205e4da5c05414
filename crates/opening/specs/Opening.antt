-- The session that the terminal holds behind an authentication.
use Rattle.std.specs.Prelude.{ℕ, true, List}
use Rattle.derivation.specs.Derivation.{mac_key}
use Rattle.held.specs.declared.Draft.{Draft}

-- a session opened with the key k and RndA a
unfoldable pub opened : Draft → List ℕ → List ℕ → Draft
opened d k a = record { random = d.random; identifier = d.identifier; held = true; key = mac_key k a d.random; ti = d.identifier; counter = 0 }
