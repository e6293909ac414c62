use Rattle.std.proofs.Common.{◌≡◌, ℕ, ◌<◌, true, false, ◌&&◌, nat_lt, sym, ap, ◌∙◌, arith}
use Rattle.std.proofs.lemmas.Bool.Decides.{nat_tests}
use Rattle.walks.specs.Views.{pick, is_settled, is_narrow, is_counted, commonest}
use Rattle.walks.specs.Walk.{counted, end, settled, view}
use Rattle.entries.proofs.Ended.{is_settled_end, is_nearby_end, is_counted_end, is_going}
use Rattle.entries.proofs.table.Table.end.Goals as goal
use Rattle.entries.proofs.table.Table.end.Goals.{else-n-d-via-then-n-d+else-is_narrow, else-n-d-via-else-n-d}

some_settled : (n : ℕ) → 0 < n → nat_lt 0 n ≡ true
some_settled n l = grind (arith, nat_tests)

none_settled : (n : ℕ) → n ≡ 0 → nat_lt 0 n ≡ false
none_settled n e = grind (arith, nat_tests)

pub returns-in-Some : goal.returns-in-Some
unfolding end
returns-in-Some c s p whole shows spans =
    let k = c.args.k in
    let v = view s p in
    let h = c.in-Some.ensures v k (c.poll-poll.ensures s p shows spans) in
    ap settled h.1 ∙ is_settled_end s k (pick (is_settled v k) 8) (commonest v k) _ (nat_lt c.args.d c.args.n && is_narrow v k c.args.n c.args.d) (is_counted v k) (some_settled _ h.0)

pub returns-then-is_narrow : goal.returns-then-is_narrow
unfolding end
returns-then-is_narrow c s p whole shows spans =
    let k = c.args.k in
    let v = view s p in
    let none = none_settled _ (c.in_default.ensures v k (c.poll-poll.ensures s p shows spans)) in
    let less = c.if-n-d.true in
    let narrow : is_narrow v k c.args.n c.args.d ≡ true = sym (c.is_narrow.ensures s p k shows spans) ∙ c.if-is_narrow.true in
    is_nearby_end s k (pick (is_settled v k) 8) (commonest v k) _ _ (is_counted v k) none (grind (arith, nat_tests))

pub returns-then-not-is_counted : goal.returns-then-not-is_counted
unfolding end
returns-then-not-is_counted c s p whole shows spans =
    let k = c.args.k in
    let v = view s p in
    let none = none_settled _ (c.in_default.ensures v k (c.poll-poll.ensures s p shows spans)) in
    let near : (nat_lt c.args.d c.args.n && is_narrow v k c.args.n c.args.d) ≡ false =
    elim c.else-n-d.branch [
      | else-n-d-via-then-n-d+else-is_narrow w ↦
          let wide : is_narrow v k c.args.n c.args.d ≡ false = sym (w.is_narrow.ensures s p k shows spans) ∙ w.if-is_narrow.false in
          grind (arith, nat_tests)
      | else-n-d-via-else-n-d w ↦ let more = w.if-n-d.false in grind (arith, nat_tests)
    ]
    in
    let done = sym (c.is_counted.ensures s p k shows spans) ∙ c.if-not-is_counted.true in
    is_going s k (pick (is_settled v k) 8) (commonest v k) _ _ _ none near done

pub returns : goal.returns
unfolding end
returns c s p whole shows spans =
    let k = c.args.k in
    let v = view s p in
    let polled = c.poll-poll.ensures s p shows spans in
    let none = none_settled _ (c.in_default.ensures v k polled) in
    let near : (nat_lt c.args.d c.args.n && is_narrow v k c.args.n c.args.d) ≡ false =
    elim c.else-n-d.branch [
      | else-n-d-via-then-n-d+else-is_narrow w ↦
          let wide : is_narrow v k c.args.n c.args.d ≡ false = sym (w.is_narrow.ensures s p k shows spans) ∙ w.if-is_narrow.false in
          grind (arith, nat_tests)
      | else-n-d-via-else-n-d w ↦ let more = w.if-n-d.false in grind (arith, nat_tests)
    ]
    in
    let done = sym (c.is_counted.ensures s p k shows spans) ∙ c.if-not-is_counted.false in
    ap counted (c.counted.ensures s p k whole shows spans polled.remains done) ∙ is_counted_end s k (pick (is_settled v k) 8) (commonest v k) _ _ _ none near done
