use Rattle.reader.proofs.held.serve.Goals as goal

pub returns-in-Resting : goal.returns-in-Resting
returns-in-Resting g c = rw c.in-Resting.is c.at_rest.ensures

pub returns-in-Querying : goal.returns-in-Querying
returns-in-Querying g c = rw c.in-Querying.is c.in_query.ensures
