-- Where a command is accepted, what the functions answer is what the rules say.
use Rattle.std.specs.Prelude.{ℕ, ◌+◌, ◌-◌, ◌≤◌, Bool, ◌||◌, List, [], ◌∷◌, ◌++◌, ◌≡◌, ltb, ℤ, ◌+ℤ◌, length, drop}
use Rattle.std.proofs.Math.Bool.{true, false}
use Rattle.std.proofs.Math.Path.{refl, sym}
use Rattle.std.proofs.Common.{subst, ◌∙◌, length-take, of_z, arith}
use borrow.Author.Tests.{eqb-true, not-false, ltb-false, le-leb, le-ltb}
use Rattle.std.proofs.Math.Dec.{eqb}
use Rattle.std.proofs.Math.IntN.{pos}
use Rattle.std.specs.Int.{w32}
use Rattle.tables.specs.Choice.{pick, none, picked, passed, pick_both, pick_alike, pick_cases, or_no}
use Rattle.wire.specs.Bytes.{four, outside_of, word}
use Rattle.roles.specs.declared.Role.{Role}
use Rattle.roles.specs.Roles.{long_size, size_of}
use Rattle.datafiles.specs.declared.Files.{Files}
use Rattle.datafiles.specs.Files as files
use Rattle.datafiles.proofs.Laws as datafiles
use Rattle.limits.specs.declared.Limits.{Limits}
use Rattle.limits.specs.Limits.{within}
use Rattle.purse.specs.declared.Purse.{Purse}
use Rattle.purse.specs.Guarded.{credit_in, debit_in, rebook_in}
use Rattle.purse.specs.Purse.{credited, debited, rebooked}
use Rattle.logfile.specs.declared.Log.{Log}
use Rattle.logfile.specs.Journal as journal
use Rattle.logfile.specs.View as log
use Rattle.logfile.proofs.Laws.{entries_view}
use Rattle.logfile.specs.Fit.{Fit}
use Rattle.logfile.proofs.FitLaws.{shown_room}
use Rattle.records.specs.Shown as records
use Rattle.frames.specs.Frame.{offset_of, length_of, amount_of}
use Rattle.columns.specs.Table.{read_data, get_value, credit, debit, limited_credit, read_records, get_file_settings, authenticate_first, authenticate_second, shows}
use Rattle.keys.specs.declared.Keys.{Keys}
use Rattle.channel.specs.declared.Channel.{Channel}
use Rattle.channel.specs.declared.Inputs.{Inputs}
use Rattle.channel.specs.Channel.{counted}
use Rattle.description.specs.Description.{described, described_in}
use Rattle.description.specs.Laws.{described_small}
use Rattle.rows.specs.State.{Core, State}
use Rattle.modes.specs.Modes.{mac_size}
use Rattle.rows.specs.Rows.{outside, maced_read, long_read, ok}
use Rattle.rows.specs.Laws.{read_inside, entries_inside, credit_inside, debit_inside, rebook_inside}
use Rattle.standing.specs.Parts.{log_broken}
use Rattle.effects.specs.Effects.{purse_after, journal_after, stored_after, files_after}
use Rattle.effects.specs.Guarded.{purse_in}
use Rattle.replies.specs.Replies.{shown_of}
use Rattle.replies.specs.Guarded.{value_in, shown_in}
use Rattle.card.specs.Events.{channel_after, changed, shown, mac_behind, accepted_status, accepted_plain, data_room}

-- what an accepted command's data field d is known to be, where m says that a MAC came off it, and r is the role of the file that it names
abbrev pub Granted : Core → Bool → ℕ → Role → List ℕ → Type 0
Granted c m i r d = (outside c.settings.limits c.purse (length c.journal.entries) i r d ≡ false) × (long_read m i r d ≡ false)

-- the data of a base command's reply
abbrev pub base_shown : State → ℕ → Role → List ℕ → List ℕ
base_shown s i r d = shown_of s.core.settings s.files s.core.purse s.core.journal i r d

-- ---- the value file

module _ (l : Limits) (p : Purse) (n : ℕ) (r : Role) (d : List ℕ) where
  credits : outside l p n credit r d ≡ false → credit_in l p (amount_of d) ≡ credited p (amount_of d)
  unfolding credit_in
  credits e = picked _ _ (credit_inside l p n r d e)

  debits : outside l p n debit r d ≡ false → debit_in l p (amount_of d) ≡ debited p (amount_of d)
  unfolding debit_in
  debits e = picked _ _ (debit_inside l p n r d e)

  rebooks : outside l p n limited_credit r d ≡ false → rebook_in l p (amount_of d) ≡ rebooked p (amount_of d)
  unfolding rebook_in pick
  rebooks e =
      let h = rebook_inside l p n r d e in
      let w = not-false (within l (p.pending +ℤ pos (amount_of d))) h.0 in
      let q = le-leb (amount_of d) p.left (ltb-false p.left (amount_of d) h.1) in
      rw (w, q)

  -- a fact of the row at the command i, where i is k
  at : (i k : ℕ) → outside l p n i r d ≡ false → eqb i k ≡ true → outside l p n k r d ≡ false
  at i k e t = subst (λ (j : ℕ). outside l p n j r d ≡ false) (eqb-true i k t) e

  pub purse_inside : (i : ℕ) → outside l p n i r d ≡ false → purse_in l i d p ≡ purse_after i d p
  unfolding purse_in purse_after
  purse_inside i e =
      pick_alike _ (λ t. credits (at i credit e t))
      (λ _. pick_alike _ (λ t. debits (at i debit e t))
      (λ _. pick_alike _ (λ t. rebooks (at i limited_credit e t))
      (λ _. refl)))

-- ---- what is shown

module _ (room : ℕ) (s : State) (l : Log) (r : Role) (d : List ℕ) (j : s.core.journal ≡ log.view l) (k : long_size ≤ room) (b : log_broken l ≡ false) where
  value_shown : (v : ℤ) → value_in room v ≡ four (of_z w32 v)
  unfolding value_in
  value_shown v = passed _ _ (le-ltb room 4 (omega arith))

  entries_shown : outside_of (length s.core.journal.entries) (offset_of d) (length_of d) ≡ false
      → records.shown_in room l (offset_of d) (length_of d) ≡ journal.shown s.core.journal (offset_of d) (length_of d)
  unfolding records.shown_in log_broken
  entries_shown e =
      let o : outside_of l.count (offset_of d) (length_of d) ≡ false = rw (j, entries_view l) at e in
      let q = le-ltb room 64 (omega arith) in
      let f = (or_no (ltb 4 l.count) _ (or_no _ _ b).0).0 in
      rw j (passed _ _ (rw (q, f, o)))

  settings_shown : described_in room s.core.settings s.core.purse.allowance l.count r
      ≡ described s.core.settings s.core.purse.allowance (length s.core.journal.entries) r
  unfolding described_in
  settings_shown = rw (j, entries_view l) (passed _ _ (le-ltb room 17 (omega arith)))

  pub shown_accepted : (i : ℕ) → outside s.core.settings.limits s.core.purse (length s.core.journal.entries) i r d ≡ false
      → shown_in room s.core.settings s.files s.core.purse l i r d ≡ base_shown s i r d
  unfolding shown_in shown_of
  shown_accepted i o =
      let c = s.core in
      pick_alike _ (λ t. sym (datafiles.shown_inside room s.files r (offset_of d) (length_of d) k (read_inside c.settings.limits c.purse _ r d (at c.settings.limits c.purse _ r d i read_data o t))))
      (λ _. pick_alike _ (λ t. value_shown c.purse.value)
      (λ _. pick_alike _ (λ t. entries_shown (entries_inside c.settings.limits c.purse _ r d (at c.settings.limits c.purse _ r d i read_records o t)))
      (λ _. pick_alike _ (λ t. settings_shown)
      (λ _. refl))))

-- ---- how much is shown

-- a read in MAC mode leaves room for its MAC
read_room : (m : Bool) (f : Files) (r : Role) (d : List ℕ) → outside_of (size_of r) (offset_of d) (length_of d) ≡ false → long_read m read_data r d ≡ false
    → length (files.shown f r (offset_of d) (length_of d)) + pick m mac_size 0 ≤ data_room
unfolding long_read pick files.shown
read_room false f r d o h = omega (arith, datafiles.shown_small f r (offset_of d) (length_of d) o)
read_room true f r d o h =
    let n = files.end_of (size_of r) (offset_of d) (length_of d) in
    let k = ltb-false maced_read (n - offset_of d) h in
    omega (arith, length-take (n - offset_of d) (drop (offset_of d) (files.bytes_of f r)))

-- a reply's data and its MAC leave room for the status
pub shown_small : (m : Bool) (s : State) (i : ℕ) (r : Role) (d : List ℕ) → Fit s.core.journal → Granted s.core m i r d → length (base_shown s i r d) + pick m mac_size 0 ≤ data_room
unfolding shown_of
shown_small m s i r d fit (o, h) =
    let c = s.core in
    let l = c.settings.limits in
    let small : pick m mac_size 0 ≤ mac_size = pick_both (λ n. n ≤ mac_size) m mac_size 0 (omega arith) (omega arith) in
    let Small : List ℕ → Type 0 = λ x. length x + pick m mac_size 0 ≤ data_room in
    pick_cases Small _ _ _ (λ t. read_room m s.files r d (read_inside l c.purse _ r d (at l c.purse _ r d i read_data o t)) (subst (λ (j : ℕ). long_read m j r d ≡ false) (eqb-true i read_data t) h))
    (λ _. pick_cases Small _ _ _ (λ t. omega arith)
    (λ _. pick_cases Small _ _ _ (λ t. omega (arith, shown_room c.journal (offset_of d) (length_of d) fit))
    (λ _. pick_cases Small _ _ _ (λ t. omega (arith, described_small c.settings c.purse.allowance (length c.journal.entries) r))
    (λ _. omega arith))))

-- ---- a base command: its channel, its reply, its status

module _ (i : ℕ) (n₁ : eqb i authenticate_first ≡ false) (n₂ : eqb i authenticate_second ≡ false) where
  pub base_channel : (ks : Keys) (u : Inputs) (d : List ℕ) (c : Channel) → channel_after ks u i d c ≡ counted c
  unfolding channel_after
  base_channel ks u d c = passed _ _ n₁ ∙ passed _ _ n₂

  pub base_accepted : (m : Bool) (s : State) (u : Inputs) (r : Role) (d : List ℕ) {n : ℕ} → n ≡ stored_after i s.core.journal
      → record { state = changed s u i r d; stored = n; out = base_shown s i r d ++ (mac_behind m (counted s.core.channel) (base_shown s i r d) ++ word ok) } ≡ accepted_plain m s u i r d
  unfolding accepted_plain shown accepted_status
  base_accepted m s u r d e =
      let x : shown s u i r d ≡ base_shown s i r d = passed _ _ n₁ ∙ passed _ _ n₂ in
      let t : accepted_status i ≡ ok = passed _ _ n₁ in
      let k : (changed s u i r d).core.channel ≡ counted s.core.channel = unfold changed in base_channel s.core.keys u d s.core.channel in
      rw (x, t, k, e) refl

-- ---- what a command that shows changes but for the counter, and what another shows: nothing

module _ (s : State) (r : Role) (d : List ℕ) where
  abbrev Still : ℕ → Type 0
  Still i = (purse_after i d s.core.purse ≡ s.core.purse) × (journal_after i d s.core.journal ≡ s.core.journal) × (files_after i r d s.files ≡ s.files)
      × (eqb i authenticate_first ≡ false) × (eqb i authenticate_second ≡ false) × (0 ≡ stored_after i s.core.journal)

  by_one : (i k : ℕ) → Still k → eqb i k ≡ true → Still i
  by_one i k e t = subst Still (sym (eqb-true i k t)) e

  pub shows_changes_nothing : (i : ℕ) → shows i ≡ true → Still i
  unfolding purse_after journal_after stored_after files_after pick
  shows_changes_nothing i e =
      by (eqb i read_data) (eqb i get_value) (eqb i read_records) (eqb i get_file_settings) (by_one i read_data (refl, refl, refl, refl, refl, refl)) (by_one i get_value (refl, refl, refl, refl, refl, refl)) (by_one i read_records (refl, refl, refl, refl, refl, refl)) (by_one i get_file_settings (refl, refl, refl, refl, refl, refl)) e
    where
      by : (a b c d : Bool) {P : Type 0} → (a ≡ true → P) → (b ≡ true → P) → (c ≡ true → P) → (d ≡ true → P) → (a || b || c || d) ≡ true → P
      by true b c d p q x y e = p refl
      by false true c d p q x y e = q refl
      by false false true d p q x y e = x refl
      by false false false d p q x y e = y e

  pub quiet_shows_nothing : (i : ℕ) → shows i ≡ false → base_shown s i r d ≡ []
  unfolding shown_of
  quiet_shows_nothing i e =
      let n = none (eqb i read_data ∷ eqb i get_value ∷ eqb i read_records ∷ eqb i get_file_settings ∷ []) e in
      passed _ _ n.0 ∙ passed _ _ n.1.0 ∙ passed _ _ n.1.1.0 ∙ passed _ _ n.1.1.1.0
