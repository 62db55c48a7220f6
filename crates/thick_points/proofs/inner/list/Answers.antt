use lib.IntN.{ℤ}
use mir.Facts.{to_z-of_z}
use Rattle.std.proofs.Common.{Err, ◌≡◌, ◌≤◌, ℕ, length, sym, ap, ◌∙◌, rules}
use Rattle.shapes.specs.declared.Line.{Line}
use Rattle.shapes.specs.declared.Offset.{Offset}
use Rattle.shapes.specs.Limits.{line_limit, thick_limit}
use Rattle.shapes.specs.Shape.{LineNear, is_line_near}
use Rattle.shapes.specs.Strokes.{Thin, stroke_refusal}
use Rattle.shapes.proofs.Laws.{line-near-iff, line-near-more}
use Rattle.shapes.proofs.Widths.{stroke-none}
use Rattle.bresenham.specs.Points.{major_length}
use Rattle.parallels.specs.declared.Plan.{Plan}
use Rattle.parallels.specs.declared.Parallels.{Parallels}
use Rattle.parallels.specs.Parallels.{plan_of, parallels_start, parallels, parallels_of, Sound}
use Rattle.parallels.proofs.Plans.{sound-plan}
use Rattle.parallels.proofs.Room.{thin-thick, begun-start}
use Rattle.thick_points.specs.declared.inner.Telling.{Telling}
use Rattle.thick_points.specs.Listing.{told_all, told_numbers}
use Rattle.shapes.proofs.Numbers.{number-some}
use Rattle.thick_points.proofs.Answers.{refused-first, refused-short, listed-all}
use Rattle.thick_points.proofs.Lists.{length-few}
use Rattle.thick_points.proofs.inner.list.Goals as goal

-- where the line and its width are not refused, all is within its limits
module _ (k : ℕ) (l : Line) (width : ℤ) where
  accepted : 0 ≡ stroke_refusal width (is_line_near k l) → Thin width × LineNear k l
  accepted free = (stroke-none width (line-near-iff k l)).0 (sym free)

  near : k ≤ line_limit → 0 ≡ stroke_refusal width (is_line_near k l) → LineNear line_limit l
  near most free = line-near-more (accepted free).1 most

  sound : (offset : Offset) {plan : Plan} → k ≤ line_limit → 0 ≡ stroke_refusal width (is_line_near k l) → plan ≡ plan_of l width offset → Sound thick_limit plan
  sound offset most free e = rw e (sound-plan l width offset (near most free) (thin-thick (accepted free).0).bound)

-- what is told of the parallels that follow the start is what is told of the line
all : (telling : Telling) (l : Line) (width : ℤ) (offset : Offset) {n : ℕ} {plan : Plan} {s : Parallels}
    → n ≡ major_length l → plan ≡ plan_of l width offset → s ≡ parallels_start plan l.start → told_all telling n plan.parallel (parallels plan s) ≡ told_numbers telling l width offset
unfolding told_numbers parallels_of
all telling l width offset n e s = rw (n, s, e)

pub returns-in_err-check_stroke-clause-value : goal.returns-in_err-check_stroke-clause-value
returns-in_err-check_stroke-clause-value c =
    let r = c.in_err-check_stroke.field-0.0 in
    let is : c.from_residual.result ≡ Err r = search rules in
    let number = rw (to_z-of_z c.ranges.width, c.is_line_near.ensures) at c.in_err-check_stroke.ensures in
    rw is (refused-first c.args.limit c.args.line c.args.width (told_numbers c.args.telling c.args.line c.args.width c.args.offset) c.args.out.now (length (told_numbers c.args.telling c.args.line c.args.width c.args.offset)) number (number-some r)).0

pub returns-in_err-check_stroke-clause-out_after : goal.returns-in_err-check_stroke-clause-out_after
returns-in_err-check_stroke-clause-out_after c =
    let r = c.in_err-check_stroke.field-0.0 in
    let number = rw (to_z-of_z c.ranges.width, c.is_line_near.ensures) at c.in_err-check_stroke.ensures in
    (refused-first c.args.limit c.args.line c.args.width (told_numbers c.args.telling c.args.line c.args.width c.args.offset) c.args.out.now (length (told_numbers c.args.telling c.args.line c.args.width c.args.offset)) number (number-some r)).1

pub plan_of-plan-requires-clause-line_near : goal.plan_of-plan-requires-clause-line_near
plan_of-plan-requires-clause-line_near c =
    let free = rw (to_z-of_z c.ranges.width, c.is_line_near.ensures) at c.in_ok-check_stroke.ensures in
    near c.args.limit c.args.line c.args.width c.requires free

pub plan_of-plan-requires-clause-within : goal.plan_of-plan-requires-clause-within
plan_of-plan-requires-clause-within c =
    let free = rw (to_z-of_z c.ranges.width, c.is_line_near.ensures) at c.in_ok-check_stroke.ensures in
    rw (to_z-of_z c.ranges.width) (thin-thick (accepted c.args.limit c.args.line c.args.width free).0)

pub start-first-requires-clause-sound : goal.start-first-requires-clause-sound
start-first-requires-clause-sound c =
    let free = rw (to_z-of_z c.ranges.width, c.is_line_near.ensures) at c.in_ok-check_stroke.ensures in
    sound c.args.limit c.args.line c.args.width c.args.offset c.requires free (rw (to_z-of_z c.ranges.width) at c.plan_of-plan.ensures)

pub start-first-requires-clause-near : goal.start-first-requires-clause-near
start-first-requires-clause-near c =
    let free = rw (to_z-of_z c.ranges.width, c.is_line_near.ensures) at c.in_ok-check_stroke.ensures in
    (near c.args.limit c.args.line c.args.width c.requires free).start_near

pub major_length-n-requires : goal.major_length-n-requires
major_length-n-requires c =
    let free = rw (to_z-of_z c.ranges.width, c.is_line_near.ensures) at c.in_ok-check_stroke.ensures in
    near c.args.limit c.args.line c.args.width c.requires free

pub count-count-requires-clause-le_n : goal.count-count-requires-clause-le_n
count-count-requires-clause-le_n c =
    let free = rw (to_z-of_z c.ranges.width, c.is_line_near.ensures) at c.in_ok-check_stroke.ensures in
    rw c.major_length-n.ensures (length-few (near c.args.limit c.args.line c.args.width c.requires free))

pub count-count-requires-clause-sound : goal.count-count-requires-clause-sound
count-count-requires-clause-sound c =
    let free = rw (to_z-of_z c.ranges.width, c.is_line_near.ensures) at c.in_ok-check_stroke.ensures in
    sound c.args.limit c.args.line c.args.width c.args.offset c.requires free (rw (to_z-of_z c.ranges.width) at c.plan_of-plan.ensures)

pub count-count-requires-clause-begun : goal.count-count-requires-clause-begun
count-count-requires-clause-begun c =
    let free = rw (to_z-of_z c.ranges.width, c.is_line_near.ensures) at c.in_ok-check_stroke.ensures in
    rw c.start-first.ensures (begun-start (sound c.args.limit c.args.line c.args.width c.args.offset c.requires free (rw (to_z-of_z c.ranges.width) at c.plan_of-plan.ensures)) (near c.args.limit c.args.line c.args.width c.requires free).start_near)

pub returns-then-out-count-clause-value : goal.returns-then-out-count-clause-value
returns-then-out-count-clause-value c =
    let free = rw (to_z-of_z c.ranges.width, c.is_line_near.ensures) at c.in_ok-check_stroke.ensures in
    let told = all c.args.telling c.args.line c.args.width c.args.offset c.major_length-n.ensures (rw (to_z-of_z c.ranges.width) at c.plan_of-plan.ensures) c.start-first.ensures in
    let counted = c.count-count.ensures ∙ ap length told in
    (refused-short c.args.limit c.args.line c.args.width (told_numbers c.args.telling c.args.line c.args.width c.args.offset) c.args.out.now (length (told_numbers c.args.telling c.args.line c.args.width c.args.offset)) (accepted c.args.limit c.args.line c.args.width free).0 (accepted c.args.limit c.args.line c.args.width free).1 (rw counted at c.if-out-count.true)).0

pub returns-then-out-count-clause-out_after : goal.returns-then-out-count-clause-out_after
returns-then-out-count-clause-out_after c =
    let free = rw (to_z-of_z c.ranges.width, c.is_line_near.ensures) at c.in_ok-check_stroke.ensures in
    let told = all c.args.telling c.args.line c.args.width c.args.offset c.major_length-n.ensures (rw (to_z-of_z c.ranges.width) at c.plan_of-plan.ensures) c.start-first.ensures in
    let counted = c.count-count.ensures ∙ ap length told in
    (refused-short c.args.limit c.args.line c.args.width (told_numbers c.args.telling c.args.line c.args.width c.args.offset) c.args.out.now (length (told_numbers c.args.telling c.args.line c.args.width c.args.offset)) (accepted c.args.limit c.args.line c.args.width free).0 (accepted c.args.limit c.args.line c.args.width free).1 (rw counted at c.if-out-count.true)).1

pub put_all-requires-clause-le_n : goal.put_all-requires-clause-le_n
put_all-requires-clause-le_n c =
    let free = rw (to_z-of_z c.ranges.width, c.is_line_near.ensures) at c.in_ok-check_stroke.ensures in
    rw c.major_length-n.ensures (length-few (near c.args.limit c.args.line c.args.width c.requires free))

pub put_all-requires-clause-sound : goal.put_all-requires-clause-sound
put_all-requires-clause-sound c =
    let free = rw (to_z-of_z c.ranges.width, c.is_line_near.ensures) at c.in_ok-check_stroke.ensures in
    sound c.args.limit c.args.line c.args.width c.args.offset c.requires free (rw (to_z-of_z c.ranges.width) at c.plan_of-plan.ensures)

pub put_all-requires-clause-begun : goal.put_all-requires-clause-begun
put_all-requires-clause-begun c =
    let free = rw (to_z-of_z c.ranges.width, c.is_line_near.ensures) at c.in_ok-check_stroke.ensures in
    rw c.start-first.ensures (begun-start (sound c.args.limit c.args.line c.args.width c.args.offset c.requires free (rw (to_z-of_z c.ranges.width) at c.plan_of-plan.ensures)) (near c.args.limit c.args.line c.args.width c.requires free).start_near)

pub returns-clause-value : goal.returns-clause-value
returns-clause-value c =
    let free = rw (to_z-of_z c.ranges.width, c.is_line_near.ensures) at c.in_ok-check_stroke.ensures in
    let told = all c.args.telling c.args.line c.args.width c.args.offset c.major_length-n.ensures (rw (to_z-of_z c.ranges.width) at c.plan_of-plan.ensures) c.start-first.ensures in
    let counted = c.count-count.ensures ∙ ap length told in
    rw counted (listed-all c.args.limit c.args.line c.args.width (told_numbers c.args.telling c.args.line c.args.width c.args.offset) c.args.out.now (length (told_numbers c.args.telling c.args.line c.args.width c.args.offset)) (accepted c.args.limit c.args.line c.args.width free).0 (accepted c.args.limit c.args.line c.args.width free).1 (rw counted at c.if-out-count.false)).0

pub returns-clause-out_after : goal.returns-clause-out_after
returns-clause-out_after c =
    let free = rw (to_z-of_z c.ranges.width, c.is_line_near.ensures) at c.in_ok-check_stroke.ensures in
    let told = all c.args.telling c.args.line c.args.width c.args.offset c.major_length-n.ensures (rw (to_z-of_z c.ranges.width) at c.plan_of-plan.ensures) c.start-first.ensures in
    let counted = c.count-count.ensures ∙ ap length told in
    rw (c.put_all.ensures, told) (listed-all c.args.limit c.args.line c.args.width (told_numbers c.args.telling c.args.line c.args.width c.args.offset) c.args.out.now (length (told_numbers c.args.telling c.args.line c.args.width c.args.offset)) (accepted c.args.limit c.args.line c.args.width free).0 (accepted c.args.limit c.args.line c.args.width free).1 (rw counted at c.if-out-count.false)).1
