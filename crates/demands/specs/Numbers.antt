-- Own numbers, stated beside the demands: renumbering is invisible but for the number. The theorems renumbered and
-- addressed prove it.
use Rattle.std.specs.Prelude.{ℕ, Bool, true, false, List, [], ◌∷◌, map, ◌≡◌, length, take, drop, Option}
use Rattle.roles.specs.declared.Role.{Role}
use Rattle.access.specs.Rights.{session_sound}
use Rattle.channel.specs.declared.Inputs.{Inputs}
use Rattle.frames.specs.Frame.{ins_of, data_of, le_of, framed}
use Rattle.columns.specs.Table.{names_file}
use Rattle.settings.specs.declared.Settings.{Settings}
use Rattle.settings.specs.Settings.{file_at, rights_of, mac_file}
use Rattle.modes.specs.Modes.{role_in, plain_of}
use Rattle.rows.specs.State.{Core}
use Rattle.rows.specs.Rows.{forged, maced_in, carries_mac}
use Rattle.card.specs.declared.Card.{Card}
use Rattle.card.specs.View.{view}
use Rattle.demands.specs.History.{Handed, Event, command, opens, delivers, session, power, next, said, run, along}
use Rattle.demands.specs.Demands.{Kept}
use Rattle.demands.specs.Sessions.{maced_frame, Sealable}

-- ---- alike but for the numbers

-- two settings that differ in the files' numbers alone
pub record ButNumbers (s t : Settings) : Type 0 where
  pub rights : (r : Role) → rights_of s r ≡ rights_of t r
  pub modes : (r : Role) → mac_file s r ≡ mac_file t r
  pub limits : s.limits ≡ t.limits
  pub limited : s.limited ≡ t.limited
  pub free : s.free ≡ t.free

-- two cards that do
pub record Alike (c d : Card) : Type 0 where
  pub settings : ButNumbers c.settings d.settings
  pub keys : c.keys ≡ d.keys
  pub files : c.files ≡ d.files
  pub purse : c.purse ≡ d.purse
  pub log : c.log ≡ d.log
  pub channel : c.channel ≡ d.channel

-- ---- frames that name the same role, each by its card's number

-- the data field of a command without its MAC, or of an opening, where o says so
abbrev pub field_on : Bool → Core → List ℕ → List ℕ
field_on o c f = plain_of (carries_mac o c (ins_of f) (data_of f)) (data_of f)

-- it carries a MAC, and a wrong one
abbrev pub wrong_mac : Bool → Core → List ℕ → Bool
wrong_mac o c f = forged c.channel (carries_mac o c (ins_of f) (data_of f)) (ins_of f) (data_of f)

-- f for the card c and g for the card d
pub record Exchanged (o : Bool) (c d : Core) (f g : List ℕ) : Type 0 where
  -- header, length and Le are the same
  pub header : take 5 f ≡ take 5 g
  pub size : length f ≡ length g
  pub le : le_of f ≡ le_of g
  -- each data field names a file of the same role by its card's number, or neither names a file
  pub role : role_in c.settings (data_of f) ≡ role_in d.settings (data_of g)
  -- behind the number they are the same up to the MAC, and where the command names no file altogether
  pub behind : drop 1 (field_on o c f) ≡ drop 1 (field_on o d g)
  pub unnamed : names_file (ins_of f) ≡ false → field_on o c f ≡ field_on o d g
  -- a MAC is right in both or wrong in both: it is over the number too
  pub mac : wrong_mac o c f ≡ wrong_mac o d g

-- ---- two runs

-- an event of the one beside one of the other
pub data Pair : Type 0 where
  commands : List ℕ → List ℕ → (u : Inputs) → Handed u → Pair
  openings : List ℕ → List ℕ → Pair
  file_bytes : List ℕ → Pair
  session_change : (k : Option ℕ) → session_sound k ≡ true → Pair
  power_up : Pair

abbrev pub left : Pair → Event
left (commands f g u handed) = command f u handed
left (openings f g) = opens f
left (file_bytes b) = delivers b
left (session_change k known) = session k known
left power_up = power

abbrev pub right : Pair → Event
right (commands f g u handed) = command g u handed
right (openings f g) = opens g
right (file_bytes b) = delivers b
right (session_change k known) = session k known
right power_up = power

-- on the cards c and d the pair is one and the same event but for the number
abbrev pub Fits : Card → Card → Pair → Type 0
Fits c d (commands f g u handed) = Exchanged false (view c).core (view d).core f g
Fits c d (openings f g) = Exchanged true (view c).core (view d).core f g
Fits c d (file_bytes b) = Unit {0}
Fits c d (session_change k known) = Unit {0}
Fits c d power_up = Unit {0}

-- each on the cards that the pairs before it led to
abbrev pub AllFit : Card → Card → List Pair → Type 0
AllFit c d [] = Unit {0}
AllFit c d (p ∷ ps) = Fits c d p × AllFit (next c (left p)) (next d (right p)) ps

-- ---- what is promised: the same replies and lengths, and the cards stay alike

pub record Unnoticed (c d : Card) (ps : List Pair) : Type 0 where
  pub replies : along next said c (map left ps) ≡ along next said d (map right ps)
  pub alike : Alike (run next c (map left ps)) (run next d (map right ps))

abbrev pub Renumbered : Type 0
Renumbered = (c d : Card) → Kept c → Kept d → Alike c d → (ps : List Pair) → AllFit c d ps → Unnoticed c d ps

-- ---- a till that knows its card's numbers

-- the frame of the command i for the file of role r, with t behind the number
abbrev pub for_role : Card → Role → ℕ → List ℕ → List ℕ
for_role c r i t = framed i ((file_at c.settings r).number ∷ t)

-- its frames for the two cards fit together, plain or with the MAC of the session that both are in
pub record Addressed (c d : Card) (r : Role) (i : ℕ) (t : List ℕ) : Type 0 where
  pub plain : maced_in (view c).core i (data_of (for_role c r i t)) ≡ false → Exchanged false (view c).core (view d).core (for_role c r i t) (for_role d r i t)
  pub sealed : Sealable c (for_role c r i t)
      → Exchanged false (view c).core (view d).core (maced_frame c (for_role c r i t)) (maced_frame d (for_role d r i t))

abbrev pub Addresses : Type 0
Addresses = (c d : Card) → Kept c → Kept d → Alike c d → (r : Role) (i : ℕ) → names_file i ≡ true → (t : List ℕ) → Addressed c d r i t
