use Rattle.walks.proofs.Sound.{walks_sound}
use Rattle.walks.proofs.laws_hold.Goals as goal

pub returns : goal.returns
returns c = walks_sound
