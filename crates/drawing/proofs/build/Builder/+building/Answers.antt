use Rattle.std.proofs.Common.{◌≡◌, ◌<◌, ◌≤◌, true, ◌∙◌, arith, rules}
use Rattle.std.proofs.lemmas.Bool.{lt-ltb}
use Rattle.boxes.specs.Views.{box_of}
use Rattle.boxes.proofs.Gridded.{grid_of}
use Rattle.boxes.proofs.Viewed.{zeros_at}
use Rattle.trees.specs.Drawing.{few}
use Rattle.drawing.proofs.Writing.{leaf_reads, run_leaf, pushed_long, leaf_built, split_built, shrink_built, as_plan, ready_after, follows_after, drawn_after}
use Rattle.trees.proofs.Drawn.{plan_stop}
use Rattle.drawing.specs.Builds.{over, nodes_of}
use Rattle.drawing.proofs.Planned.{few_deep, few_short, full_long, ready_bound, ready_room, deeper_one_half, level_both, full_depth, halves_of, halves_run, split_plan, shrink_plan, shrink_size, shrink_deeper, inner_run}
use Rattle.drawing.proofs.build.Builder.+building.Goals as goal
use Rattle.drawing.proofs.build.Builder.+building.Goals.{build_box-then-run-le-LEAF_SAMPLES-via-then-run-le-LEAF_SAMPLES, build_box-then-run-le-LEAF_SAMPLES-via-else-run-le-LEAF_SAMPLES+then-depth-ge-MAX_DEPTH}

pub build_box-tally-counts-requires : goal.build_box-tally-counts-requires
build_box-tally-counts-requires t c = ready_bound _ _ _ c.requires

pub build_box-push-requires : goal.build_box-push-requires
build_box-push-requires t c = ready_room _ _ _ c.requires

pub build_box-returns-then-run-le-LEAF_SAMPLES :
    goal.build_box-returns-then-run-le-LEAF_SAMPLES
build_box-returns-then-run-le-LEAF_SAMPLES t c =
    let a = over c.args.self.now in
    let k = box_of c.args.k in
    let f : few a k ≡ true = elim c.then-run-le-LEAF_SAMPLES.branch [
      | build_box-then-run-le-LEAF_SAMPLES-via-then-run-le-LEAF_SAMPLES w ↦ few_short a k c.args.run.now c.requires.run w.if-run-le-LEAF_SAMPLES.true
      | build_box-then-run-le-LEAF_SAMPLES-via-else-run-le-LEAF_SAMPLES+then-depth-ge-MAX_DEPTH w ↦ few_deep a k (omega (arith, w.if-depth-ge-MAX_DEPTH.true, w.depth.ensures.value))
    ]
    in
    let leaf = run_leaf a c.args.k c.args.run.now c.tally-counts.result c.requires.run c.tally-counts.ensures in
    record { same = c.push.ensures.same; drawn = as_plan a (plan_stop a k f) (leaf_built a (nodes_of c.args.self.now) (nodes_of c.push.new.self) _ c.push.ensures.pushed k leaf) }

pub build_box-build_shrink-requires : goal.build_box-build_shrink-requires
build_box-build_shrink-requires t c =
    let a = over c.args.self.now in
    let k = box_of c.args.k in
    let d : k.depth < 80 = omega (arith, c.depth.ensures.value) in
    let i : k.depth < c.core_of-inner.result.depth = omega (arith, c.depth-2.ensures.value, c.depth-3.ensures.value) in (
      search rules,
      (
        c.requires,
        (
          full_long a k c.args.run.now c.requires.run (omega arith) d,
          (deeper_one_half a k d (box_of c.core_of-inner.result) c.core_of-inner.ensures i, c.core_of-inner.ensures),
        ),
      ),
    )

pub build_box-build_split-requires : goal.build_box-build_split-requires
build_box-build_split-requires t c =
    let a = over c.args.self.now in
    let k = box_of c.args.k in
    let d : k.depth < 80 = omega (arith, c.depth.ensures.value) in
    let i : c.core_of-inner.result.depth ≤ k.depth = omega (arith, c.depth-2.ensures.value, c.depth-3.ensures.value) in (
      search rules,
      (
        c.requires,
        (full_long a k c.args.run.now c.requires.run (omega arith) d, level_both a k d (box_of c.core_of-inner.result) c.core_of-inner.ensures i),
      ),
    )

pub build_shrink-tally-counts-requires : goal.build_shrink-tally-counts-requires
build_shrink-tally-counts-requires t c = ready_bound _ _ _ c.requires.ready

pub build_shrink-push-at-requires : goal.build_shrink-push-at-requires
build_shrink-push-at-requires t c = ready_room _ _ _ c.requires.ready

pub build_shrink-build_box-requires : goal.build_shrink-build_box-requires
build_shrink-build_box-requires t c =
    let b = c.args.self.now in
    let a = over b in
    let k = box_of c.args.k in
    let i = box_of c.args.inner in
    let e = shrink_size a k c.requires.full i c.requires.parts c.requires.inner in
    let d = shrink_deeper a k c.requires.full i c.requires.parts c.requires.inner in
    let g = (grid_of c.args.inner).0 in
    let l = pushed_long a _ _ _ c.push-at.ensures.pushed in
    (search rules, ready_after b c.push-at.new.self c.push-at.ensures.same c.args.inner c.args.run.now (inner_run a k c.requires.full i c.requires.inner c.args.run.now c.requires.ready.run) (omega (arith, c.requires.ready.room)))

pub build_shrink-push-rim-requires : goal.build_shrink-push-rim-requires
build_shrink-push-rim-requires t c =
    let b = c.args.self.now in
    let e = shrink_size (over b) (box_of c.args.k) c.requires.full (box_of c.args.inner) c.requires.parts c.requires.inner in
    let l = pushed_long (over b) _ _ _ c.push-at.ensures.pushed in
    let u = drawn_after b c.push-at.new.self c.push-at.ensures.same c.args.inner c.build_box.new.self c.build_box.ensures in
    omega (arith, u.long, c.requires.ready.room)

pub build_shrink-overflow_cast-rim : goal.build_shrink-overflow_cast-rim
build_shrink-overflow_cast-rim t c =
    let b = c.args.self.now in
    let e = shrink_size (over b) (box_of c.args.k) c.requires.full (box_of c.args.inner) c.requires.parts c.requires.inner in
    let l = pushed_long (over b) _ _ _ c.push-at.ensures.pushed in
    let u = drawn_after b c.push-at.new.self c.push-at.ensures.same c.args.inner c.build_box.new.self c.build_box.ensures in
    omega (arith, u.long, c.requires.ready.room, c.push-rim.ensures.number)

pub build_shrink-returns : goal.build_shrink-returns
build_shrink-returns t c =
    let b = c.args.self.now in
    let a = over b in
    let k = box_of c.args.k in
    let u = drawn_after b c.push-at.new.self c.push-at.ensures.same c.args.inner c.build_box.new.self c.build_box.ensures in
    let f = follows_after b c.push-at.new.self c.push-at.ensures.same c.args.inner c.build_box.new.self c.build_box.ensures in
    let leaf = run_leaf a c.args.k c.args.run.now c.tally-counts.result c.requires.ready.run c.tally-counts.ensures in
    let rim = leaf_reads a c.args.k _ (λ f. 0) (λ f l. zeros_at f) in
    record {
      same = record { slots = c.push-rim.ensures.same.slots ∙ f.slots; nodes = search rules };
      drawn = rw c.deref_mut.ensures.value
          (as_plan a (shrink_plan a k c.requires.full (box_of c.args.inner) c.requires.parts c.requires.inner)
          (shrink_built a _ k _ _ (nodes_of b) (nodes_of c.push-at.new.self) (nodes_of c.build_box.new.self) (nodes_of c.push-rim.new.self) _ _ c.index-deref_mut-at.result c.push-at.result c.push-rim.result
          c.requires.inner leaf c.push-at.ensures.pushed c.push-at.ensures.number u rim c.push-rim.ensures.pushed c.push-rim.ensures.number));
    }

pub build_split-unwrap-requires : goal.build_split-unwrap-requires
build_split-unwrap-requires t c = c.halves.ensures.test ∙ lt-ltb c.args.k.depth 80 (full_depth (over c.args.self.now) (box_of c.args.k) c.requires.full)

pub build_split-tally-counts-requires : goal.build_split-tally-counts-requires
build_split-tally-counts-requires t c = ready_bound _ _ _ c.requires.ready

pub build_split-push-at-requires : goal.build_split-push-at-requires
build_split-push-at-requires t c = ready_room _ _ _ c.requires.ready

pub build_split-build_box-requires : goal.build_split-build_box-requires
build_split-build_box-requires t c =
    let b = c.args.self.now in
    let a = over b in
    let h = halves_of c.args.k _ c.unwrap.result c.unwrap.ensures c.halves.ensures.value in
    let f = c.split_at_mut-front in
    let p = halves_run a _ _ _ c.requires.full c.requires.parts h _ _ _ _ _ c.requires.ready.run c.part-below.ensures f.ensures.value f.ensures.front_len in
    let l = pushed_long a _ _ _ c.push-at.ensures.pushed in
    (search rules, ready_after b c.push-at.new.self c.push-at.ensures.same c.unwrap.result.0 f.result.0.now p.front (omega (arith, c.requires.ready.room, p.size)))

pub build_split-build_box-requires-2 : goal.build_split-build_box-requires-2
build_split-build_box-requires-2 t c =
    let b = c.args.self.now in
    let a = over b in
    let h = halves_of c.args.k _ c.unwrap.result c.unwrap.ensures c.halves.ensures.value in
    let f = c.split_at_mut-front in
    let p = halves_run a _ _ _ c.requires.full c.requires.parts h _ _ _ _ _ c.requires.ready.run c.part-below.ensures f.ensures.value f.ensures.front_len in
    let l = pushed_long a _ _ _ c.push-at.ensures.pushed in
    let u = drawn_after b c.push-at.new.self c.push-at.ensures.same c.unwrap.result.0 c.build_box.new.self c.build_box.ensures in
    let s = follows_after b c.push-at.new.self c.push-at.ensures.same c.unwrap.result.0 c.build_box.new.self c.build_box.ensures in
    (search rules, ready_after b c.build_box.new.self s c.unwrap.result.1 f.result.1.now p.back (omega (arith, c.requires.ready.room, p.size, u.long)))

pub build_split-returns : goal.build_split-returns
build_split-returns t c =
    let b = c.args.self.now in
    let a = over b in
    let k = box_of c.args.k in
    let h = halves_of c.args.k _ c.unwrap.result c.unwrap.ensures c.halves.ensures.value in
    let u = drawn_after b c.push-at.new.self c.push-at.ensures.same c.unwrap.result.0 c.build_box.new.self c.build_box.ensures in
    let s = follows_after b c.push-at.new.self c.push-at.ensures.same c.unwrap.result.0 c.build_box.new.self c.build_box.ensures in
    let v = drawn_after b c.build_box.new.self s c.unwrap.result.1 c.build_box-2.new.self c.build_box-2.ensures in
    let f = follows_after b c.build_box.new.self s c.unwrap.result.1 c.build_box-2.new.self c.build_box-2.ensures in
    let leaf = run_leaf a c.args.k c.args.run.now c.tally-counts.result c.requires.ready.run c.tally-counts.ensures in
    record {
      same = record { slots = f.slots; nodes = search rules };
      drawn = rw c.deref_mut.ensures.value
          (as_plan a (split_plan a k c.requires.full _ _ c.requires.parts h)
          (split_built a _ _ k _ _ (nodes_of b) (nodes_of c.push-at.new.self) (nodes_of c.build_box.new.self) (nodes_of c.build_box-2.new.self) _ c.index-deref_mut-at.result c.push-at.result c.len-second.result
          h.low h.high leaf c.push-at.ensures.pushed c.push-at.ensures.number u v c.len-second.ensures.value));
    }
