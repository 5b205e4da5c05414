use Rattle.logfile.proofs.Settling.{commits_clear, commits_entry_lem, commits_none}
use Rattle.logfile.proofs.Log.commit.Goals as goal

pub returns-then-self : goal.returns-then-self
returns-then-self c = let l = c.args.self in commits_clear l c.if-self.true c.emptied.ensures

pub returns-then-self-2 : goal.returns-then-self-2
returns-then-self-2 c = let l = c.args.self in commits_entry_lem l c.if-self.false c.if-self-2.true c.push.ensures

pub returns-else-self-2 : goal.returns-else-self-2
returns-else-self-2 c = let l = c.args.self in commits_none l c.if-self.false c.if-self-2.false c.drop_pending.ensures
