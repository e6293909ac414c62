use Rattle.histories.proofs.Lawful.{known_of}
use Rattle.histories.proofs.Promised.{loaded_right}
use Rattle.reader.specs.Views.{field_in}
use Rattle.reader.proofs.reader.Reader.load.Goals as goal

pub returns-clause-kept : goal.returns-clause-kept
returns-clause-kept g c =
    let m = c.args.self.now.measure in
    let known = known_of (g.M.Measure.weighed m) (g.M.Measure.joined m) (g.met.M.Measure.weigh_rises m) (g.met.M.Measure.join_rises m) in
    loaded_right _ _ known c.args.file.now (field_in c.args.self.now) c.load.new.field c.load.result (rw c.deref_mut.ensures.value at c.load.ensures)
