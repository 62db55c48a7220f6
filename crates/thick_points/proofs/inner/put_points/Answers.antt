use lib.IntN.{ℤ}
use lib.Seq.{sets}
use mir.Syntax.{w64}
use mir.Facts.{to_z-of_z}
use Rattle.std.proofs.Common.{◌≡◌, List, [], ◌∷◌, ℕ, ◌+◌, ◌-◌, ◌*◌, ◌<◌, sym, ◌∙◌, arith, rules}
use Rattle.bresenham.specs.declared.Parameters.{Parameters}
use Rattle.bresenham.specs.declared.Bresenham.{Bresenham}
use Rattle.bresenham.specs.Points.{points_from}
use Rattle.bresenham.specs.Walk.{next_of, Fair}
use Rattle.parallels.specs.Parallels.{delta_limit}
use Rattle.thick_points.specs.Listing.{point_numbers, Walk}
use Rattle.thick_points.proofs.Lists.{point-turn, point-end, walk-next}
use Rattle.thick_points.proofs.inner.put_points.Goals as goal

-- one turn, where `i` of `n` points are stored
module _ (along : Parameters) (n i : ℕ) (b : Bresenham) (lt : i < n) where
  walked : Fair delta_limit along → Walk (n - i) along b → Walk (n - (i + 1)) along (next_of along b).state
  walked f w =
      let less : n - (i + 1) ≡ n - i - 1 = omega arith in
      rw less (walk-next along f (n - i) b w (omega arith))

  stored : (out : List ℤ) (at : ℕ)
      → sets (sets out (at + 2 * i) ((next_of along b).point.x ∷ (next_of along b).point.y ∷ [])) (at + 2 * (i + 1)) (point_numbers (points_from (n - (i + 1)) along (next_of along b).state))
      ≡ sets out (at + 2 * i) (point_numbers (points_from (n - i) along b))
  stored out at =
      let less : n - (i + 1) ≡ n - i - 1 = omega arith in
      let place : at + 2 * (i + 1) ≡ at + 2 * i + 2 = omega arith in
      rw (less, place) (sym (point-turn out (at + 2 * i) (n - i) along b (omega arith)))

pub loop-i-preserved : goal.loop-i-preserved
loop-i-preserved c =
    let i = c.loop-i.invariant in
    let x = to_z-of_z {w = w64} {z = c.next-point.result.x} (search rules) in
    let y = to_z-of_z {w = w64} {z = c.next-point.result.y} (search rules) in
    rw (rw (x, y) at c.put_pair.ensures, c.next-point.ensures.point, c.next-point.ensures.after)
    (record {
      walk = walked c.args.along c.args.n c.loop-i.i c.loop-i.start c.loop-i-test.true c.requires.fair i.walk;
      same = stored c.args.along c.args.n c.loop-i.i c.loop-i.start c.loop-i-test.true c.loop-i.out c.args.at ∙ i.same;
    })

pub returns : goal.returns
returns c = sym (point-end c.loop-i.out (c.args.at + 2 * c.loop-i.i) (c.args.n - c.loop-i.i) c.args.along c.loop-i.start (omega (arith, c.loop-i-test.false))) ∙ c.loop-i.invariant.same
