use Rattle.crosscheck.proofs.answer.AnswerDisplay.fmt.Goals as goal

pub returns-in-Settled-clause-writes : goal.returns-in-Settled-clause-writes
returns-in-Settled-clause-writes g c = rw (c.in-Judged.is, c.in-Settled.is) c.write.ensures.writes

pub returns-in-Nearby-clause-writes : goal.returns-in-Nearby-clause-writes
returns-in-Nearby-clause-writes g c = rw (c.in-Judged.is, c.in-Nearby.is) c.write-in-Nearby.ensures.writes

pub returns-in-Counted-clause-writes : goal.returns-in-Counted-clause-writes
returns-in-Counted-clause-writes g c = rw (c.in-Judged.is, c.in-Counted.is) c.write-in-Counted.ensures.writes
