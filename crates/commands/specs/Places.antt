-- Which of places 5 to 13 apply, as the code asks them: the tests of the table's rows, one by one, whether there is a MAC, and the
-- role of the file that is named.
use Rattle.std.specs.Prelude.{ℕ, Bool, ◌||◌, List, length}
use Rattle.roles.specs.declared.Role.{Role}
use Rattle.access.specs.declared.Access.{Access}
use Rattle.commands.specs.declared.Places.{Places}
use Rattle.rows.specs.State.{Core, log_pending}
use Rattle.modes.specs.Modes.{role_in, access_for, plain_of}
use Rattle.rows.specs.Rows.{unknown_command, interrupts, wrong_length, lacks_mac, unknown_file, other_kind_or_never, not_granted, part_fails, sealed_chain, forged, used_up, switched_off, bad_parameter, outside, long_read, nothing_pending, maced_in, carries_mac}

-- where the file has the role r and access to it is a, sealed says that the command is in MAC mode, and m that the data field x is d with a MAC
unfoldable pub places_under : Bool → Role → Access → Bool → Bool → Core → ℕ → List ℕ → List ℕ → Places
places_under o r a sealed m c i x d =
    record {
      command = unknown_command o c.channel.stage i;
      waits = interrupts c.channel.stage c.channel.chain i;
      length = wrong_length o i d || lacks_mac m x;
      file = unknown_file i r;
      kind = other_kind_or_never i r a;
      grant = not_granted i a || part_fails c.keys c.channel i d;
      chain = sealed_chain o sealed;
      seal = forged c.channel m i x || used_up c.channel.stage i;
      off = switched_off i c.settings.limited c.journal.clears;
      value = bad_parameter i d;
      range = outside c.settings.limits c.purse (length c.journal.entries) i r d || long_read m i r d;
      nothing = nothing_pending i c.purse.moved (log_pending c.journal);
      maced = m;
      role = r;
    }

unfoldable pub places_of : Bool → Core → ℕ → List ℕ → Places
places_of o c i x =
    places_under o (role_in c.settings x) (access_for c.settings c.channel.stage i x) (maced_in c i x) (carries_mac o c i x) c i x
    (plain_of (carries_mac o c i x) x)
