use Rattle.std.proofs.Common.{◌≡◌, subst, Some}
use Rattle.shapes.specs.declared.Line.{Line}
use Rattle.intersection_params.specs.declared.Intersection.{Intersection}
use Rattle.intersection_params.specs.declared.Intersection.TheVariants.{At, Colinear}
use Rattle.shapes.specs.Limits.{line_limit}
use Rattle.shapes.specs.Shape.{Near, LineNear}
use Rattle.shapes.proofs.Widths.{thin-held}
use Rattle.line_join.specs.declared.Origin.{Origin}
use Rattle.line_join.specs.declared.bend.Meeting.{Meeting}
use Rattle.line_join.specs.Miter.{corner_room}
use Rattle.line_join.specs.Origins.{origin_of}
use Rattle.line_join.specs.Join.{meet, meeting_by, meeting_of, bent_of}
use Rattle.line_join.proofs.Room.{Inside, meet-room}
use Rattle.line_join.proofs.bend.bent.Goals as goal

-- a meeting is the point where two edges meet, with its side and its origin
met-by : (x : Intersection) (o : Origin) {m : Meeting} → meeting_by x o ≡ Some m → (x ≡ At m.point m.side) × (o ≡ m.origin)
met-by (At p s) o e = (cc, cc)
met-by Colinear o e = cc

met : (second first : Line) (m : Meeting) → meeting_of second first ≡ Some m → (meet second first ≡ At m.point m.side) × (origin_of second first ≡ m.origin)
met second first m e = met-by (meet second first) (origin_of second first) e

met-near : {second first : Line} (m : Meeting) → LineNear line_limit second → LineNear line_limit first → meeting_of second first ≡ Some m → Near corner_room m.point
met-near {second} {first} m p q e = subst Inside (met second first m e).0 (meet-room p q)

pub bent_at-join-requires-clause-corners_near : goal.bent_at-join-requires-clause-corners_near
bent_at-join-requires-clause-corners_near c =
    let f = c.requires.edges_near in
    let s = c.requires.edges_near_2 in
    record {
      left_near = met-near c.in-Some.left s.left_near f.left_near (cc);
      right_near = met-near c.in-Some-meet.right s.right_near f.right_near (cc);
    }

pub returns : goal.returns
unfolding bent_of
returns c =
    let a = c.args in
    let l = met a.second.left a.first.left c.in-Some.left (cc) in
    let r = met a.second.right a.first.right c.in-Some-meet.right (cc) in
    simp (c.traced.ensures, c.bent_at-join.ensures, (thin-held c.requires.thin).is, l.0, r.0, l.1, r.1)
