use Rattle.std.specs.Prelude.{◌≡◌, refl, true, ◌∷◌, []}
use Rattle.std.proofs.Common.{◌∙◌}
use Rattle.tables.specs.Choice.{picked, passed}
use Rattle.logfile.specs.declared.Log.{Log}
use Rattle.logfile.specs.Journal.{blank, fresh_or}
use Rattle.logfile.specs.View.{view}
use Rattle.logfile.proofs.Settling.{written_log}
use Rattle.logfile.proofs.Log.write.Goals as goal
use Rattle.logfile.proofs.Log.write.Goals.{then-not-self, else-not-self}

-- the log with its new entry as it stands, one of zeros where there is none
abbrev begun : Log → Log
begun l = record { slots = l.slots; place = l.place; count = l.count; entry = fresh_or blank (view l).fresh; adds = l.adds; clears = l.clears }

pub returns : goal.returns
unfolding view fresh_or blank
returns c =
    let q : c.if-not-self.self ≡ begun c.args.self =
    elim c.if-not-self.branch [
      | then-not-self w ↦ rw (w.self-is, passed (c.args.self.entry ∷ []) [] w.if-not-self.true) refl
      | else-not-self w ↦ rw (w.self-is, picked (c.args.self.entry ∷ []) [] w.if-not-self.false) refl
    ]
    in
    (λ i. record { slots = (q i).slots; place = (q i).place; count = (q i).count; entry = c.lay.new.dst; adds = true; clears = (q i).clears })
    ∙ written_log c.args.self c.args.off c.args.bytes.now _ c.lay.new.dst refl (rw q at c.lay.ensures)
