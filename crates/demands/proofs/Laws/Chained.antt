-- An accepted opening and an accepted frame of file bytes keep the standing rules.
use Rattle.std.specs.Prelude.{ℕ, true, List, ◌≡◌, length}
use Rattle.std.proofs.Common.{◌∙◌, arith, ne_eqb, le-leb}
use Rattle.tables.specs.Choice.{passed, and_both, and_right}
use Rattle.roles.specs.declared.Role.{Role}
use Rattle.datafiles.proofs.Laws.{written_sized}
use Rattle.chains.specs.Chain.{is_open, announced, next_place, chain_sound}
use Rattle.chains.specs.Laws.{Carried}
use Rattle.channel.proofs.Fitting.{chained_fitting, advanced_fitting}
use Rattle.frames.specs.Frame.{length_of}
use Rattle.modes.specs.Modes.{role_in}
use Rattle.rows.specs.State.{Core, State}
use Rattle.rows.specs.Openings.{Announced}
use Rattle.card.specs.Events.{opening, delivered}
use Rattle.demands.proofs.Laws.Sound.{Sound}

-- ---- an opening

announced_sound : (c : Core) (r : Role) (d : List ℕ) → Announced c r d → chain_sound (announced r d) ≡ true
unfolding chain_sound announced
announced_sound c r d h = passed _ _ (ne_eqb _ _ h.some) ∙ and_both _ _ (and_both _ _ h.file (le-leb _ _ h.range)) (le-leb (length_of d) (length_of d) (omega arith))

pub opening_sound : (s : State) (d : List ℕ) → Sound s → Announced s.core (role_in s.core.settings d) d → Sound (opening s d).state
unfolding opening
opening_sound s d h a =
    record {
      rights = h.rights;
      limits = h.limits;
      above = h.above;
      twice = h.twice;
      channel = chained_fitting s.core.channel (announced (role_in s.core.settings d) d) h.channel (announced_sound s.core _ d a) (and_right (is_open (announced (role_in s.core.settings d) d)) _ a.alone);
      figures = h.figures;
      journal = h.journal;
      apart = h.apart;
      files = h.files;
    }

-- ---- a frame of n file bytes

pub delivered_sound : (s : State) (b : List ℕ) → Sound s → Carried s.core.channel.chain (length b) → Sound (delivered s b).state
unfolding delivered
delivered_sound s b h a =
    record {
      rights = h.rights;
      limits = h.limits;
      above = h.above;
      twice = h.twice;
      channel = advanced_fitting s.core.channel (length b) h.channel a.opened;
      figures = h.figures;
      journal = h.journal;
      apart = h.apart;
      files = let k = s.core.channel.chain in written_sized s.files k.file (next_place k) b h.files;
    }
