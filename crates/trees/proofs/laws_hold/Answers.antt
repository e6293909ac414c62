use Rattle.std.proofs.Common.{◌-◌}
use Rattle.trees.proofs.Boxed.{lower_inside, upper_inside, halves_cover, side_deepest}
use Rattle.trees.proofs.Counting.{right_parts, admit_right, withdraw_right}
use Rattle.trees.proofs.Drawn.{plan_size, rebuilt_size}
use Rattle.trees.proofs.Lawfully.{right_says}
use Rattle.trees.proofs.Pathed.{under_root, child, under_parts, under_covers, ends, ends_one, reached_under}
use Rattle.trees.proofs.Rebuilt.{rebuilt_rules, rebuilt_right}
use Rattle.trees.proofs.laws_hold.Goals as goal

pub returns : goal.returns
returns c = record {
  halves = λ k v h. (lower_inside k h, upper_inside k h, halves_cover k v h);
  singles = side_deepest;
  paths = λ m node rules v f. record {
    root = under_root node v;
    child = child m node rules v;
    one_child = under_parts m node rules v;
    covered = under_covers m node rules v f;
    end_leaf = (ends m node rules v, reached_under node v (m - 1));
    one_leaf = ends_one m node rules v;
  };
  counting = λ m node counts a rules r. record {
    adds = right_parts m node rules counts a r;
    admits = λ z f v l e. admit_right node m counts a z f v r l e;
    withdraws = λ z l e. withdraw_right node m counts a z r l e;
  };
  drawing = λ a. record {
    nodes = plan_size a;
    most = rebuilt_size a;
    rules = rebuilt_rules a;
    right = λ node counts ok n t. right_says _ node counts a (rebuilt_right a node n ok counts t);
  };
}
