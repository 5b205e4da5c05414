-- One line of a draft: what the terminal writes for it, and what it holds after it.
use Rattle.std.specs.Prelude.{ℕ, Bool, ◌&&◌, ◌||◌, List, [], ◌∷◌, ◌++◌, ◌≡◌, eqb, leb, ltb, length, get_or}
use Rattle.tables.specs.Choice.{pick}
use Rattle.wire.specs.Bytes.{part, Shows}
use Rattle.text.specs.Hex.{is_hex, spelt, in_digits}
use Rattle.till.specs.Till.{first_frame, second_part, second_frame, sealed, sealable}
use Rattle.lines.specs.Lines.{Said}
use Rattle.lines.specs.Frames.{longest_line}
use Rattle.held.specs.declared.Draft.{Draft}
use Rattle.held.specs.Held.{over, counted, sent, noted}
use Rattle.opening.specs.Opening.{opened}
use Rattle.drafts.specs.declared.Step.{Step}

-- ---- what is written

unfoldable pub unchanged : Draft → List ℕ → Said Draft
unchanged d line = record { next = d; out = line }

-- `?`, which the bench answers by `?`
unfoldable pub unread : Draft → Said Draft
unread d = record { next = d; out = 0x3F ∷ [] }

-- both parts of an authentication, a line each: b is key number, key, RndA
unfoldable pub authenticated : Draft → List ℕ → Said Draft
authenticated d b =
    record {
      next = opened d (part b 1 17) (part b 17 33);
      out = in_digits (first_frame (get_or b 0 0) []) ++ 0x0A ∷ in_digits (second_frame (second_part (part b 1 17) (part b 17 33) d.random));
    }

-- the frame f with its MAC; `?` without a session, or where f takes no MAC
unfoldable pub maced : Draft → List ℕ → Said Draft
maced d f = pick (d.held && sealable f) (record { next = counted d; out = in_digits (sealed d.key d.ti d.counter f) }) (unread d)

-- ---- a line

-- a letter with n characters behind it, which are digits or not, and the bytes that they spell:
-- M and a frame; A and 66 digits; N and 40 digits; C and two digits at least, whose whole chain is one command to the card;
-- S and P, which end a session; any other
unfoldable pub lettered_by : Draft → List ℕ → ℕ → ℕ → Bool → List ℕ → Said Draft
lettered_by d line letter n digits b =
    pick (eqb letter 0x4D && digits) (maced d b)
    (pick (eqb letter 0x41 && eqb n 66 && digits) (authenticated d b)
    (pick (eqb letter 0x4E && eqb n 40 && digits) (unchanged (noted d b) line)
    (pick (eqb letter 0x43 && leb 2 n && digits) (unchanged (counted d) line)
    (pick (eqb letter 0x53 || eqb letter 0x50) (unchanged (over d) line)
    (unchanged d line)))))

unfoldable pub lettered : Draft → List ℕ → ℕ → List ℕ → Said Draft
lettered d line letter rest = lettered_by d line letter (length rest) (is_hex rest) (pick (is_hex rest) (spelt rest) [])

-- more than 1,024 characters; none: a power-up; digits: a plain frame; else a letter's line
unfoldable pub drafted : Draft → List ℕ → Said Draft
drafted d line =
    pick (ltb longest_line (length line)) (unread d)
    (pick (eqb (length line) 0) (unchanged (over d) line)
    (pick (is_hex line) (unchanged (sent d (spelt line)) line)
    (lettered d line (get_or line 0 0) (part line 1 (length line)))))

-- the line lies at the front of a buffer, and r has what is held after it and its length
abbrev pub Writes : Said Draft → List ℕ → List ℕ → Step → Type 0
Writes o before after r = (r.draft ≡ o.next) × Shows o.out before after r.len
