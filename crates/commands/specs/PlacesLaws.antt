-- The places as the code asks them.
use Rattle.std.specs.Prelude.{ℕ, Bool, ◌&&◌, ◌||◌, List, ◌≡◌, Option}
use Rattle.std.proofs.Math.Path.{refl}
use Rattle.purse.specs.declared.Purse.{Purse}
use Rattle.logfile.specs.declared.Log.{Log}
use Rattle.logfile.specs.View as log
use Rattle.logfile.proofs.Laws.{entries_view}
use Rattle.access.specs.declared.Access.{Access}
use Rattle.keys.specs.declared.Keys.{Keys}
use Rattle.channel.specs.declared.Channel.{Channel}
use Rattle.channel.specs.Channel.{acting_of}
use Rattle.settings.specs.declared.Settings.{Settings}
use Rattle.settings.specs.declared.Named.{Named}
use Rattle.settings.specs.Settings.{named_by, access_by, access_to}
use Rattle.modes.specs.Modes.{role_in, maced_under, plain_of}
use Rattle.rows.specs.Laws.{pending_view}
use Rattle.rows.specs.Rows.{unknown_command, interrupts, wrong_length, lacks_mac, unknown_file, other_kind_or_never, not_granted, part_fails, forged, used_up, switched_off, bad_parameter, outside, long_read, nothing_pending, carries}
use Rattle.commands.specs.Places.{places_under, places_of}

-- where they were asked of the file n that is named, the access a, and the data field d without a MAC if m
pub asked_by : (o : Bool) (s : Settings) (ks : Keys) (p : Purse) (l : Log) (ch : Channel) (i : ℕ) (x : List ℕ)
    {n : Named} {k : Option ℕ} {a : Access} {sealed m : Bool} {d : List ℕ} {v1 v2 v3 v4 v5 v6 v7 v8 v9 v10 v11 v12 v13 v14 v15 : Bool}
    → n ≡ named_by s (role_in s x) → k ≡ acting_of ch.stage → a ≡ access_by s n.file.rights k i → sealed ≡ maced_under a n.file.maced ch.stage i → m ≡ carries o sealed → d ≡ plain_of m x
    → v1 ≡ unknown_command o ch.stage i → v2 ≡ interrupts ch.stage ch.chain i → v3 ≡ wrong_length o i d → v4 ≡ lacks_mac m x → v5 ≡ unknown_file i n.role
    → v6 ≡ other_kind_or_never i n.role a → v7 ≡ not_granted i a → v8 ≡ part_fails ks ch i d → v9 ≡ forged ch m i x → v10 ≡ used_up ch.stage i
    → v11 ≡ switched_off i s.limited l.clears → v12 ≡ bad_parameter i d → v13 ≡ outside s.limits p l.count i n.role d → v14 ≡ long_read m i n.role d
    → v15 ≡ nothing_pending i p.moved (l.adds || l.clears)
    → record { command = v1; waits = v2; length = v3 || v4; file = v5; kind = v6; grant = v7 || v8; chain = o && sealed; seal = v9 || v10; off = v11; value = v12; range = v13 || v14; nothing = v15; maced = m; role = n.role }
    ≡ places_of o (record { settings = s; keys = ks; purse = p; journal = log.view l; channel = ch }) i x
unfolding places_of places_under access_to
asked_by o s ks p l ch i x en ek ea es em ed e1 e2 e3 e4 e5 e6 e7 e8 e9 e10 e11 e12 e13 e14 e15 =
    let c : (log.view l).clears ≡ l.clears = unfold log.view in refl in
    rw (e1, e2, e3, e4, e5, e6, e7, e8, e9, e10, e11, e12, e13, e14, e15, ed, em, es, ea, ek, en, entries_view l, pending_view l, c) refl
