-- Sessions, stated beside the demands: each field is a sentence. The theorems sealed_as_plain, wrong_mac_lem and let_in prove them.
use Rattle.std.specs.Prelude.{ℕ, ◌+◌, ◌%◌, ◌≤◌, true, false, List, ◌∷◌, ◌++◌, ◌↔◌, ◌≡◌, length, take}
use Rattle.tables.specs.Reasons.{NoReason}
use Rattle.wire.specs.Bytes.{word}
use Rattle.field.specs.Bytes.{Bytes, Block, Sized}
use Rattle.keys.specs.Keys.{key_at}
use Rattle.channel.specs.declared.Inputs.{Inputs}
use Rattle.channel.specs.declared.Stage.TheVariants.{Bench, Real}
use Rattle.chains.specs.Chain.{is_open}
use Rattle.access.specs.Rights.{last_key}
use Rattle.channel.specs.Channel.{is_waiting, counter_of, last_count, bare, chained}
use Rattle.sealing.specs.Sealing.{seal_of}
use Rattle.derivation.specs.Derivation.{mac_key}
use Rattle.frames.specs.Frame.{ins_of, data_of, lrp_in}
use Rattle.modes.specs.Modes.{role_in, plain_of, mac_of}
use Rattle.rows.specs.Rows.{long_read, maced_in, ok, status_of}
use Rattle.card.specs.declared.Card.{Card}
use Rattle.card.specs.View.{view, on_channel}
use Rattle.card.specs.Outcome.{Outcome}
use Rattle.card.specs.Events.{commanded, reply_room}
use Rattle.till.specs.Till.{first_frame, learnt_b, second_part, second_frame, replied_ti, knows_us, sealed, sealable}
use Rattle.demands.specs.Demands.{Kept, Untouched, FirstRow, rows_on}

-- a command with room for its reply
abbrev pub sends : Card → List ℕ → Inputs → Outcome
sends c f u = commanded c f u reply_room

-- ---- what a MACed command does is what the same command does plain

-- the frame f with its MAC put in, as the terminal of the card's session does
abbrev pub maced_frame : Card → List ℕ → List ℕ
maced_frame c f = sealed c.channel.secret c.channel.ti (counter_of c.channel.stage) f

-- the same card under a session of the bench with the key k
abbrev pub on_bench : Card → ℕ → Card
on_bench c k = on_channel c (chained (bare (Bench k)) c.channel.chain)

-- the card c under a real session with the key k, at command counter n
pub record SealedAsPlain (c : Card) (k n : ℕ) (f : List ℕ) (u : Inputs) : Type 0 where
  pub accepted : (status_of (view c).core (maced_frame c f) ≡ ok)
      ↔ ((status_of (view (on_bench c k)).core f ≡ ok) × (n ≡ last_count → ⊥) × (long_read true (ins_of f) (role_in c.settings (data_of f)) (data_of f) ≡ false))
  -- and where it is accepted:
  pub files : status_of (view c).core (maced_frame c f) ≡ ok → (sends c (maced_frame c f) u).card.files ≡ (sends (on_bench c k) f u).card.files
  pub purse : status_of (view c).core (maced_frame c f) ≡ ok → (sends c (maced_frame c f) u).card.purse ≡ (sends (on_bench c k) f u).card.purse
  pub log : status_of (view c).core (maced_frame c f) ≡ ok → (sends c (maced_frame c f) u).card.log ≡ (sends (on_bench c k) f u).card.log
  -- the reply is that reply with the MAC in it, behind its data x and before 9100
  pub reply : status_of (view c).core (maced_frame c f) ≡ ok
      → (x : List ℕ) × ((sends (on_bench c k) f u).out ≡ x ++ word ok)
      × ((sends c (maced_frame c f) u).out ≡ x ++ (seal_of c.channel.secret 0x00 ((n + 1) % 65536) c.channel.ti x ++ word ok))

-- a plain frame that passes places 1 to 4 and takes a MAC, and whose command is in MAC mode on the card
pub record Sealable (c : Card) (f : List ℕ) : Type 0 where
  pub framed : NoReason (take 4 (rows_on false c f))
  pub takes : sealable f ≡ true
  pub mode : maced_in (view c).core (ins_of f) (data_of (maced_frame c f)) ≡ true

abbrev pub AsPlain : Type 0
AsPlain = (c : Card) (k n : ℕ) → Kept c → c.channel.stage ≡ Real k n → (f : List ℕ) → Sealable c f → (u : Inputs) → SealedAsPlain c k n f u

-- ---- a wrong MAC

-- refused by a row at or above 911E, with nothing but the session lost
pub record WrongMac (c : Card) (g : List ℕ) (u : Inputs) : Type 0 where
  pub status : ℕ
  pub row : FirstRow (take 12 (rows_on false c g)) status
  pub reply : (sends c g u).out ≡ word status
  pub untouched : Untouched c (sends c g u).card

-- a frame in MAC mode whose last eight bytes differ from the right ones in any bit
abbrev pub WrongMacs : Type 0
WrongMacs = (c : Card) → Kept c → (g : List ℕ) → maced_in (view c).core (ins_of g) (data_of g) ≡ true
    → (mac_of (data_of g) ≡ seal_of c.channel.secret (ins_of g) (counter_of c.channel.stage) c.channel.ti (plain_of true (data_of g)) → ⊥)
    → (u : Inputs) → WrongMac c g u

-- ---- a terminal that knows the key and follows the protocol is let in

-- the card c, its key K of number k, RndA a, PCDcap2 caps; the bench hands in u with the first part and u' with the second
module _ (c : Card) (k : ℕ) (a caps : List ℕ) (u u' : Inputs) where
  abbrev pub key : List ℕ
  key = key_at c.keys k

  abbrev pub first : Outcome
  first = sends c (first_frame k caps) u

  -- RndB, which the terminal learns from the sixteen bytes e of the first reply
  abbrev pub second : List ℕ → Outcome
  second e = sends first.card (second_frame (second_part key a (learnt_b key e))) u'

  pub record LetIn : Type 0 where
    -- the replies' data
    pub e : List ℕ
    pub r : List ℕ
    pub first_accepted : first.out ≡ e ++ word 0x91AF
    pub second_accepted : (second e).out ≡ r ++ word 0x9100
    pub opened : (second e).card.channel.stage ≡ Real k 0
    -- both sides hold the same session key and identifier
    pub same_key : (second e).card.channel.secret ≡ mac_key key a (learnt_b key e)
    pub same_ti : (second e).card.channel.ti ≡ replied_ti key r
    -- RndB and TI are those that the bench handed in, and the terminal finds its own RndA in the reply
    pub random : learnt_b key e ≡ u.random
    pub identifier : replied_ti key r ≡ u.ti
    pub proved : knows_us key a r ≡ true

abbrev pub Terminals : Type 0
Terminals = (c : Card) → Kept c → is_waiting c.channel.stage ≡ false → is_open c.channel.chain ≡ false → (k : ℕ) → k ≤ last_key → Block (key_at c.keys k)
    → (a : List ℕ) → Block a → (caps : List ℕ) → Bytes caps → length caps ≤ 253 → (lrp_in (k ∷ length caps ∷ caps) ≡ 1 → ⊥)
    → (u u' : Inputs) → Block u.random → Sized 4 u.ti → LetIn c k a caps u u'
