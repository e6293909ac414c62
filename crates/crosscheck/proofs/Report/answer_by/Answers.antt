use Rattle.crosscheck.proofs.Report.answer_by.Goals as goal

pub returns-in-Block : goal.returns-in-Block
returns-in-Block c = rw c.in-Block.is c.answer_lines.ensures

pub returns-in-Square : goal.returns-in-Square
returns-in-Square c = rw c.in-Square.is c.answer_lines-in-Square.ensures

pub returns-in-Peak : goal.returns-in-Peak
returns-in-Peak c = rw c.in-Peak.is c.answer_lines-in-Peak.ensures

pub returns-in-Damped : goal.returns-in-Damped
returns-in-Damped c = rw c.in-Damped.is c.answer_lines-in-Damped.ensures
