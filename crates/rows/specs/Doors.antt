-- Through which door a command is granted changes no status.
use Rattle.std.specs.Prelude.{ℕ, Bool, ◌&&◌, List, ◌≡◌, eqb, Option}
use Rattle.tables.specs.Reasons.{first}
use Rattle.roles.specs.declared.Role.{Role}
use Rattle.access.specs.declared.Access.{Access}
use Rattle.access.specs.Doors.{undivided, same_status}
use Rattle.columns.specs.Table.{get_value, by_read, by_write}
use Rattle.frames.specs.Frame.{ins_of, data_of}
use Rattle.settings.specs.declared.Settings.{Settings}
use Rattle.settings.specs.Settings.{rights_of, access_to}
use Rattle.rows.specs.State.{Core}
use Rattle.channel.specs.Channel.{acting_of}
use Rattle.modes.specs.Modes.{role_in, plain_of}
use Rattle.rows.specs.Rows.{other_kind_or_never, not_granted, carries_mac, rows_under, rows_for, ok, status_for}

-- access as the paper decides it, every grant told as one
unfoldable pub undivided_to : Settings → Option ℕ → ℕ → Role → Access
undivided_to s k i r = undivided (rights_of s r) k (by_read i) (by_write i) (eqb i get_value && s.free)

-- the status by that; which commands carry a MAC is told by the door, as request 06 asks
unfoldable pub paper_status : Bool → Core → List ℕ → ℕ
paper_status o c f =
    first
    (rows_under o (role_in c.settings (data_of f)) (undivided_to c.settings (acting_of c.channel.stage) (ins_of f) (role_in c.settings (data_of f)))
    (carries_mac o c (ins_of f) (data_of f)) c f (ins_of f) (data_of f)
    (plain_of (carries_mac o c (ins_of f) (data_of f)) (data_of f)))
    ok

pub status_stays : (o : Bool) (c : Core) (f : List ℕ) → paper_status o c f ≡ status_for o c f
unfolding paper_status status_for rows_for undivided_to access_to other_kind_or_never not_granted
status_stays o c f = simp (same_status (rights_of c.settings (role_in c.settings (data_of f))) (acting_of c.channel.stage) (by_read (ins_of f)) (by_write (ins_of f)) (eqb (ins_of f) get_value && c.settings.free))
