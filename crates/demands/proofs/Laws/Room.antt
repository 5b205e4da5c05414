-- An accepted reply's data and its MAC are at most 256 bytes.
use Rattle.std.specs.Prelude.{ℕ, ◌+◌, ◌*◌, ◌/◌, ◌≤◌, Bool, true, false, List, [], ◌∷◌, ◌++◌, ◌≡◌, refl, length, replicate}
use Rattle.std.proofs.Common.{ap, subst, ◌∙◌, arith, eqb-true, length-append, length-take-le}
use Rattle.tables.specs.Choice.{pick, pick_both, pick_cases}
use Rattle.keys.specs.declared.Keys.{Keys}
use Rattle.channel.specs.declared.Channel.{Channel}
use Rattle.channel.specs.declared.Inputs.{Inputs}
use Rattle.cmac.specs.Laws.{length_truncated}
use Rattle.cbc.specs.Cbc.{decrypted}
use Rattle.cbc.specs.Laws.{length_encrypted, length_decrypted}
use Rattle.sealing.specs.Sealing.{seal_of}
use Rattle.handshake.specs.Handshake.{rotated, first_reply, brought_a, second_reply}
use Rattle.authentication.specs.Authentication.{part_key, first_shown, second_shown}
use Rattle.columns.specs.Table.{authenticate_second}
use Rattle.rows.specs.State.{State}
use Rattle.channel.specs.Fitting.{Fitting}
use Rattle.modes.specs.Modes.{role_in, mac_size, plain_of}
use Rattle.rows.specs.Rows.{maced_in, wrong_length, ok, command_status}
use Rattle.rows.specs.Laws.{inside, long_enough, second_length}
use Rattle.card.specs.Accepted.{base_shown, shown_small}
use Rattle.card.specs.Events.{shown, mac_behind, data_room}
use Rattle.demands.specs.History.{Handed}
use Rattle.demands.proofs.Laws.Sound.{Sound}

pub mac_length : (m : Bool) (k : Channel) (x : List ℕ) → length (mac_behind m k x) ≡ pick m mac_size 0
unfolding mac_behind seal_of pick
mac_length true k x = length_truncated _
mac_length false k x = refl

pub first_length : (ks : Keys) (u : Inputs) (d : List ℕ) → Handed u → length (first_shown ks u d) ≡ 16
unfolding first_shown first_reply
first_length ks u d handed = length_encrypted _ u.random ∙ ap (λ (n : ℕ). 16 * (n / 16)) handed.random

pub brought_length : (k d : List ℕ) → length d ≡ 32 → length (brought_a k d) ≡ 16
unfolding brought_a
brought_length k d e = let l : length (decrypted k d) ≡ 32 = length_decrypted k d ∙ ap (λ (n : ℕ). 16 * (n / 16)) e in length-take-le 16 (decrypted k d) (omega arith)

pub rotated_length : (x : List ℕ) → length (rotated x) ≡ length x
unfolding rotated
rotated_length [] = refl
rotated_length (a ∷ x) = let l = length-append x (a ∷ []) in omega arith

pub replied_length : (k ti caps a : List ℕ) → length ti ≡ 4 → length caps ≡ 6 → length a ≡ 16 → length (second_reply k ti caps a) ≡ 32
unfolding second_reply
replied_length k ti caps a lt lc la =
    let r = rotated_length a in
    let l : length (ti ++ rotated a ++ replicate 6 0 ++ caps) ≡ 32 = simp length-append (omega arith) in
    length_encrypted k _ ∙ ap (λ (n : ℕ). 16 * (n / 16)) l

pub second_shown_lem : (ks : Keys) (c : Channel) (d : List ℕ) → Fitting c → length d ≡ 32 → length (second_shown ks c d) ≡ 32
unfolding second_shown
second_shown_lem ks c d h e = replied_length (part_key ks c) c.ti c.caps _ h.ti h.caps (brought_length (part_key ks c) d e)

-- x is the data field as sent, k the channel after
pub reply_room_lem : (s : State) (u : Inputs) → Handed u → (i : ℕ) (x : List ℕ) (k : Channel) → Sound s → command_status false s.core i x ≡ ok
    → length (shown s u i (role_in s.core.settings x) (plain_of (maced_in s.core i x) x) ++ mac_behind (maced_in s.core i x) k (shown s u i (role_in s.core.settings x) (plain_of (maced_in s.core i x) x))) ≤ data_room
unfolding shown
reply_room_lem s u handed i x k h e =
    let m = maced_in s.core i x in
    let d = plain_of m x in
    let most : pick m mac_size 0 ≤ mac_size = pick_both (λ n. n ≤ mac_size) m mac_size 0 (omega arith) (omega arith) in
    let Small : List ℕ → Type 0 = λ y. length (y ++ mac_behind m k y) ≤ data_room in
    let small : (y : List ℕ) → length y + pick m mac_size 0 ≤ data_room → Small y = λ y r. omega (arith, r, length-append y (mac_behind m k y), mac_length m k y) in
    pick_cases Small _ _ _ (λ t. small (first_shown s.core.keys u d) (omega (arith, most, first_length s.core.keys u d handed)))
    (λ _. pick_cases Small _ _ _
    (λ t. small (second_shown s.core.keys s.core.channel d) (omega (arith, most, second_shown_lem s.core.keys s.core.channel d h.channel (second_length false d (subst (λ (j : ℕ). wrong_length false j d ≡ false) (eqb-true i authenticate_second t) (long_enough false s.core i x e).0)))))
    (λ _. small (base_shown s i (role_in s.core.settings x) d) (shown_small m s i (role_in s.core.settings x) d h.journal (inside false s.core i x e))))
