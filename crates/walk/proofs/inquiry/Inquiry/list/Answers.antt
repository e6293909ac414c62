use Rattle.walk.proofs.inquiry.Inquiry.list.Goals as goal

pub returns : goal.returns
returns g c i shows placed spans = c.list.ensures i (record { shows = shows; placed = placed; spans = spans })
