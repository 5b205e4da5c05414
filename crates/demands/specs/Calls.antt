-- Runs of the card's methods, each call as its contract says.
use Rattle.std.specs.Prelude.{ℕ, ◌≤◌, ◌<◌, true, false, List, [], ◌∷◌, ◌≡◌, length, take, Option}
use Rattle.access.specs.Rights.{session_sound}
use Rattle.card.specs.declared.Card.{Card}
use Rattle.card.specs.declared.Reply.{Reply}
use Rattle.card.specs.Outcome.{reply_of, Answered}
use Rattle.card.specs.Events.{commanded, chain_opened, bytes_sent, session_changed, powered_up, reply_room}
use Rattle.channel.specs.declared.Inputs.{Inputs}
use Rattle.demands.specs.History.{Handed, Event, command, opens, delivers, session, power, Said}

-- what is seen of a reply r and the buffer after the call
abbrev pub seen : Reply → List ℕ → Said
seen r after = record { refusal = r.refusal; bytes = take r.len after; len = r.len }

-- calls led from the card c to the card d: es is the history, and ss what was seen of its events
pub data Ran (d : Card) : Card → List Event → List Said → Type 0 where
  done : Ran d d [] []
  -- command, with room for the reply
  commands : {c : Card} {es : List Event} {ss : List Said} (f : List ℕ) (u : Inputs) (handed : Handed u) (before after : List ℕ) (r : Reply) → reply_room ≤ length before
      → Answered (commanded c f u (length before)) before after r → Ran d r.card es ss → Ran d c (command f u handed ∷ es) (seen r after ∷ ss)
  -- open_chain, and file_frame, with room for a reply
  openings : {c : Card} {es : List Event} {ss : List Said} (f before after : List ℕ) (r : Reply) → reply_room ≤ length before
      → Answered (chain_opened c f (length before)) before after r → Ran d r.card es ss → Ran d c (opens f ∷ es) (seen r after ∷ ss)
  frames : {c : Card} {es : List Event} {ss : List Said} (b before after : List ℕ) (r : Reply) → reply_room ≤ length before
      → Answered (bytes_sent c b (length before)) before after r → Ran d r.card es ss → Ran d c (delivers b ∷ es) (seen r after ∷ ss)
  -- change_session to a key 0 to 4 or none
  changes : {c : Card} {es : List Event} {ss : List Said} (k : Option ℕ) (known : session_sound k ≡ true) (r : Reply)
      → r ≡ reply_of (session_changed c k) → Ran d r.card es ss → Ran d c (session k known ∷ es) (seen r [] ∷ ss)
  -- power_up
  powers : {c : Card} {es : List Event} {ss : List Said} (r : Reply) → r ≡ reply_of (powered_up c) → Ran d r.card es ss → Ran d c (power ∷ es) (seen r [] ∷ ss)
  -- those that are no part of the history, since bench refusals answer them: with less room, and change_session to another key
  short : {c : Card} {es : List Event} {ss : List Said} (f : List ℕ) (u : Inputs) (before after : List ℕ) (r : Reply) → length before < reply_room
      → Answered (commanded c f u (length before)) before after r → Ran d r.card es ss → Ran d c es ss
  short_opening : {c : Card} {es : List Event} {ss : List Said} (f before after : List ℕ) (r : Reply) → length before < reply_room
      → Answered (chain_opened c f (length before)) before after r → Ran d r.card es ss → Ran d c es ss
  short_frame : {c : Card} {es : List Event} {ss : List Said} (b before after : List ℕ) (r : Reply) → length before < reply_room
      → Answered (bytes_sent c b (length before)) before after r → Ran d r.card es ss → Ran d c es ss
  unknown : {c : Card} {es : List Event} {ss : List Said} (k : Option ℕ) (r : Reply) → session_sound k ≡ false
      → r ≡ reply_of (session_changed c k) → Ran d r.card es ss → Ran d c es ss
