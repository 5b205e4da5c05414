-- What a chain promises: what an end behind any of its frames leaves, and that a whole one is a WriteData. The theorems torn and whole
-- prove it.
use Rattle.std.specs.Prelude.{ℕ, ◌≤◌, true, false, List, [], ◌∷◌, ◌++◌, ◌≡◌, length, take}
use Rattle.wire.specs.Bytes.{laid}
use Rattle.roles.specs.declared.Role.{Role}
use Rattle.roles.specs.Roles.{is_data}
use Rattle.datafiles.specs.Files.{bytes_of}
use Rattle.chains.specs.Chain.{unchained, most_bytes}
use Rattle.channel.specs.declared.Inputs.{Inputs}
use Rattle.frames.specs.Frame.{ins_of, data_of, offset_of, length_of, bytes_in}
use Rattle.columns.specs.Table.{write_data}
use Rattle.modes.specs.Modes.{role_in}
use Rattle.rows.specs.Rows.{ok, maced_in, status_of, opening_status, bytes_status}
use Rattle.card.specs.declared.Card.{Card}
use Rattle.card.specs.View.{view}
use Rattle.demands.specs.Strike.{flat}
use Rattle.demands.specs.History.{Event, command, opens, delivers, session, power, outcome, next, run, along, books_of}
use Rattle.demands.specs.Demands.{Kept}
use Rattle.demands.specs.Sessions.{sends}

-- frames of 1 to 128 bytes
abbrev pub FrameSizes : List (List ℕ) → Type 0
FrameSizes [] = Unit {0}
FrameSizes (b ∷ bs) = (1 ≤ length b) × (length b ≤ most_bytes) × FrameSizes bs

-- one behind the other
abbrev pub delivery : List (List ℕ) → List Event
delivery [] = []
delivery (b ∷ bs) = delivers b ∷ delivery bs

-- ---- an end behind any frame

-- what is refused on the card c, a session change, a power-up
abbrev pub Ends : Card → Event → Type 0
Ends c (command f u handed) = status_of (view c).core f ≡ ok → ⊥
Ends c (opens f) = opening_status (view c).core f ≡ ok → ⊥
Ends c (delivers b) = bytes_status c.channel.chain b ≡ ok → ⊥
Ends c (session k known) = Unit {0}
Ends c power = Unit {0}

-- the card c; r is the role of the file that the opening names, d its data field, bs the frames that came, and after the card behind
-- the end
pub record Torn (c : Card) (r : Role) (d : List ℕ) (bs : List (List ℕ)) (after : Card) : Type 0 where
  -- the file has its old bytes with those of the frames laid from the offset on, and the other data files are as before
  pub file : bytes_of after.files r ≡ laid (bytes_of c.files r) (offset_of d) (flat bs)
  pub others : (q : Role) → is_data q ≡ true → (q ≡ r → ⊥) → bytes_of after.files q ≡ bytes_of c.files q
  -- the books are the committed ones, and the rest of the chain is gone
  pub books : books_of (view after) ≡ books_of (view c)
  pub chain : after.channel.chain ≡ unchained

-- an accepted opening f, then frames that it has announced, then an end
abbrev pub Tears : Type 0
Tears = (c : Card) → Kept c → (f : List ℕ) → opening_status (view c).core f ≡ ok → (bs : List (List ℕ)) → FrameSizes bs → length (flat bs) ≤ length_of (data_of f)
    → (e : Event) → Ends (run next c (opens f ∷ delivery bs)) e → Torn c (role_in c.settings (data_of f)) (data_of f) bs (next (run next c (opens f ∷ delivery bs)) e)

-- ---- a whole chain

-- the WriteData f without its bytes
abbrev pub opening_of : List ℕ → List ℕ
opening_of f = 0x90 ∷ 0x8D ∷ 0x00 ∷ 0x00 ∷ 0x07 ∷ take 7 (data_of f) ++ 0x00 ∷ []

-- nothing to the opening and to each frame but the last, and reply to the last
abbrev pub heard : List (List ℕ) → List ℕ → List (List ℕ)
heard [] reply = reply ∷ []
heard (b ∷ bs) reply = [] ∷ heard bs reply

-- the card is the one that the WriteData f leaves, its counter included, and its reply is the same
pub record Whole (c : Card) (f : List ℕ) (u : Inputs) (bs : List (List ℕ)) : Type 0 where
  pub card : run next c (opens (opening_of f) ∷ delivery bs) ≡ (sends c f u).card
  pub replies : along next (λ k e. (outcome k e).out) c (opens (opening_of f) ∷ delivery bs) ≡ heard bs (sends c f u).out

-- a WriteData in plain mode that is accepted, with its bytes in frames
abbrev pub Wholes : Type 0
Wholes = (c : Card) → Kept c → (f : List ℕ) → ins_of f ≡ write_data → maced_in (view c).core write_data (data_of f) ≡ false → status_of (view c).core f ≡ ok
    → (u : Inputs) (bs : List (List ℕ)) → FrameSizes bs → flat bs ≡ bytes_in (data_of f) → Whole c f u bs
