-- The refusals, each exactly when it holds first; what the entries answer; and that their values tell answers apart. Assumes
-- nothing.
use mathlib.Core.Path.{◌≡◌, refl, sym, ap, subst, ◌∙◌}
use mathlib.Core.Logic.{◌↔◌, ◌≢◌}
use mathlib.Core.Bool.{Bool, true, false, ◌&&◌, cond}
use Prim.Native.Nat.{ℕ, ◌+◌, ◌*◌, ◌≤◌}
use native.Mathlib.Omega.{arith}
use borrow.Author.Tests.{eqb-false}
use lib.Dec.{eqb}
use lib.IntN.{ℤ}
use Rattle.std.specs.Prelude.{Result, Ok, Err, Option, Some, None}
use Rattle.whole.proofs.Tests.{and-iff, Chosen, chosen, else-true, never, bad-first, good-first, good-later}
use Rattle.shapes.specs.declared.Point.{Point}
use Rattle.shapes.specs.declared.Line.{Line}
use Rattle.shapes.specs.declared.Side.TheVariants.{Left, Right}
use Rattle.shapes.specs.declared.Offset.{Offset}
use Rattle.shapes.specs.declared.limits.Limits.{Limits}
use Rattle.shapes.specs.declared.refusals.Refusal.{Refusal}
use Rattle.shapes.specs.declared.refusals.Refusal.TheVariants.{Corner}
use Rattle.shapes.specs.Refusals.{number_of}
use Rattle.shapes.specs.Limits.{corner_limit, width_limit, line_limit}
use Rattle.shapes.specs.Shape.{Near, LineNear, line_of, is_near, is_line_near, no_line}
use Rattle.shapes.proofs.Laws.{near-iff, line-near-iff}
use Rattle.line_join.specs.declared.Kind.{Kind}
use Rattle.line_join.specs.declared.Kind.TheVariants as kind
use Rattle.line_join.specs.declared.Join.{Join}
use Rattle.line_join.specs.declared.Caps.{Caps}
use Rattle.line_join.specs.declared.Caps.TheVariants as caps
use Rattle.shapes.specs.Strokes.{Thin, is_thin, stroke_refusal}
use Rattle.line_join.specs.Caps.{JoinNear, is_join_near, filler_of, start_caps_of, end_caps_of, is_degenerate}
use Rattle.line_join.specs.Words.{Refusals, Named, BendTold}
use Rattle.line_join.specs.Standing.{standing_at}
use Rattle.line_join.specs.Join.{start_of, end_of, join_of}
use Rattle.line_join.specs.Answers.{kind_number, JoinValues, refused_join, join_values, FillerValues, filler_values, CapsValues, caps_values, Judged, degenerate_values, if_near}
use Rattle.line_join.specs.Answers.{made_of, join_answer, start_answer, end_answer, points_answer, filler_answer, start_caps_answer, end_caps_answer, degenerate_answer}
use Rattle.line_join.proofs.Laws.{start-within, end-within}
use Rattle.shapes.proofs.Widths.{thin-iff, stroke-none}
use Rattle.line_join.proofs.Room.{join-room, join-near-iff}
use Rattle.line_join.proofs.Standing.{standing-near}
use Rattle.shapes.proofs.Numbers.{numbered, unbent, read_refusal, read-refusal}
use Rattle.line_join.proofs.Named.{bend-told, chosen-told, alone-named, alone-far}

-- ---- the constructors

stroke-other : (w : ℤ) (near : Bool) → stroke_refusal w near ≢ 5
unfolding stroke_refusal
stroke-other w near = never (is_thin w) (never near (λ e. omega arith) (λ e. omega arith)) (λ e. omega arith)

-- what an entry knows of its input where it is not refused: it is inside the limits, and the answer is what is made of the join
module _ (w : ℤ) (near : Bool) (none : 0 ≡ stroke_refusal w near) where
  pub admitted : Thin w × (near ≡ true)
  admitted = (stroke-none w {near = near} (λ e. e, λ e. e)).0 (sym none)

  pub answer-made : (k : ℕ) (j : Join) → join_values (made_of k j) ≡ join_answer k w near j
  unfolding join_answer
  answer-made k j = rw (← none) refl

-- else the answer is the refusal, which comes with no position
refused_by : (r : Refusal) {n : ℕ} → number_of r ≡ n → n ≢ 5 → (v : JoinValues) → join_values (Err r) ≡ cond (eqb n 0) v (refused_join n 0)
unfolding join_values
refused_by r e other v = rw (← e, numbered r, unbent r (λ five. other (sym e ∙ five))) refl

pub answer-refused : (k : ℕ) (w : ℤ) (near : Bool) (r : Refusal) → number_of r ≡ stroke_refusal w near → (j : Join) → join_values (Err r) ≡ join_answer k w near j
unfolding join_answer
answer-refused k w near r e j = refused_by r e (stroke-other w near) (join_values (made_of k j))

made_by : (j : Join) (t : Bool) → (join_values (cond t (Ok j) (Err (Corner j.position)))).refusal ≡ cond t 0 5
unfolding join_values
made_by j true = refl
made_by j false = refl

made-refusal : (k : ℕ) (j : Join) → (join_values (made_of k j)).refusal ≡ cond (is_join_near k j) 0 5
unfolding made_of if_near
made-refusal k j = made_by j (is_join_near k j)

-- the chain, by its three tests
chain_by : (k : ℕ) (j : Join) (t n : Bool) → (cond (eqb (cond t (cond n 0 4) 3) 0) (join_values (made_of k j)) (refused_join (cond t (cond n 0 4) 3) 0)).refusal ≡ cond t (cond n (cond (is_join_near k j) 0 5) 4) 3
chain_by k j true true = made-refusal k j
chain_by k j true false = refl
chain_by k j false n = refl

-- 3, 4 and 5 in this order: each exactly when it is the first that holds
pub refusal-exactly : {P C : Type 0} (k : ℕ) (w : ℤ) (near : Bool) (j : Join) → (near ≡ true) ↔ P → (is_join_near k j ≡ true) ↔ C → Refusals (Thin w) P C (join_answer k w near j).refusal
unfolding join_answer stroke_refusal
refusal-exactly k w near j exactly corners =
    let chain = chain_by k j (is_thin w) near in
    let thin = thin-iff w in
    let far = is_join_near k j in
    record {
      none = rw chain (good-later (is_thin w) thin (λ e. omega arith) (good-later near exactly (λ e. omega arith) (bad-first far corners (λ e. omega arith))));
      width = rw chain (good-first (is_thin w) thin (never near (never far (λ e. omega arith) (λ e. omega arith)) (λ e. omega arith)));
      points = rw chain (good-later (is_thin w) thin (λ e. omega arith) (good-first near exactly (never far (λ e. omega arith) (λ e. omega arith))));
      corners = rw chain (good-later (is_thin w) thin (λ e. omega arith) (good-later near exactly (λ e. omega arith) (good-first far corners (λ e. omega arith))));
    }

-- the corners' test does not ask where a join stands
standing-iff : (k i : ℕ) (j : Join) → (is_join_near k (standing_at i j) ≡ true) ↔ JoinNear k j
standing-iff k i j = rw (standing-near k i j) (join-near-iff k j)

pub points-iff : (limits : Limits) (a b c : Point) → ((is_line_near limits.point (line_of a b) && is_near limits.point c) ≡ true) ↔ (LineNear limits.point (line_of a b) × Near limits.point c)
points-iff limits a b c = and-iff (is_line_near limits.point (line_of a b)) (is_near limits.point c) (line-near-iff limits.point (line_of a b)) (near-iff limits.point c)

module _ (limits : Limits) (a b : Point) (w : ℤ) (o : Offset) where
  pub start-refusal : Refusals (Thin w) (LineNear limits.point (line_of a b)) (JoinNear limits.corner (start_of a b w o)) (start_answer limits a b w o).refusal
  unfolding start_answer
  start-refusal = refusal-exactly limits.corner w _ (start_of a b w o) (line-near-iff limits.point (line_of a b)) (join-near-iff limits.corner (start_of a b w o))

  pub end-refusal : Refusals (Thin w) (LineNear limits.point (line_of a b)) (JoinNear limits.corner (end_of a b w o)) (end_answer limits a b w o).refusal
  unfolding end_answer
  end-refusal = refusal-exactly limits.corner w _ (standing_at 1 (end_of a b w o)) (line-near-iff limits.point (line_of a b)) (standing-iff limits.corner 1 (end_of a b w o))

pub points-refusal : (limits : Limits) (a b c : Point) (w : ℤ) (o : Offset) → Refusals (Thin w) (LineNear limits.point (line_of a b) × Near limits.point c) (JoinNear limits.corner (join_of a b c w o)) (points_answer limits a b c w o).refusal
unfolding points_answer
points-refusal limits a b c w o =
    refusal-exactly limits.corner w _ (standing_at 1 (join_of a b c w o)) (points-iff limits a b c) (standing-iff limits.corner 1 (join_of a b c w o))

-- a route's first and last join are never refused with 5, where the corners' limit leaves room for a stroke
module _ (limits : Limits) (fits : limits.point ≤ line_limit) (room : limits.point + (4 * width_limit + 3) ≤ limits.corner) (a b : Point) (w : ℤ) (o : Offset) (h : LineNear limits.point (line_of a b)) (t : Thin w) where
  pub start-accepted : (start_answer limits a b w o).refusal ≡ 0
  start-accepted = (start-refusal limits a b w o).none.1 (t, (h, start-within o fits room h.start_near h.end_near t))

  pub end-accepted : (end_answer limits a b w o).refusal ≡ 0
  end-accepted = (end-refusal limits a b w o).none.1 (t, (h, end-within o fits room h.start_near h.end_near t))

-- with no refusal the join, else the refusal and what comes with 5, with 0 in every other value, and no crossing on either side
chosen_by : (k : ℕ) (j : Join) (n : ℕ) (t s : Bool) → eqb n 0 ≡ t → is_join_near k j ≡ s → let v = cond (eqb n 0) (join_values (made_of k j)) (refused_join n 0) in
    Chosen (v.refusal ≡ 0) v (join_values (Ok j)) (refused_join v.refusal v.bend)
unfolding made_of if_near join_values
chosen_by k j n true true e f = rw (e, f) (record { holds = λ h. refl; fails = λ h. absurd (h refl) })
chosen_by k j n true false e f = rw (e, f) (record { holds = λ h. absurd (omega arith); fails = λ h. refl })
chosen_by k j n false s e f = rw e (record { holds = λ h. absurd (eqb-false n 0 e h); fails = λ h. refl })

pub answer-chosen : (k : ℕ) (w : ℤ) (near : Bool) (j : Join) → Chosen ((join_answer k w near j).refusal ≡ 0) (join_answer k w near j) (join_values (Ok j)) (refused_join (join_answer k w near j).refusal (join_answer k w near j).bend)
unfolding join_answer
answer-chosen k w near j = chosen_by k j (stroke_refusal w near) (eqb (stroke_refusal w near) 0) (is_join_near k j) refl refl

-- ---- the bend of a constructor's refusal

bends-by : (k : ℕ) (j : Join) (n : ℕ) (t s : Bool) → n ≢ 5 → eqb n 0 ≡ t → is_join_near k j ≡ s → let v = cond (eqb n 0) (join_values (made_of k j)) (refused_join n 0) in
    (v.refusal ≡ 5 → v.bend ≡ j.position) × (v.refusal ≢ 5 → v.bend ≡ 0)
unfolding made_of if_near join_values
bends-by k j n true true other e f = rw (e, f) (λ h. absurd (omega arith), λ h. refl)
bends-by k j n true false other e f = rw (e, f) (λ h. refl, λ h. absurd (h refl))
bends-by k j n false s other e f = rw e (λ h. absurd (other h), λ h. refl)

answer-bend : (k : ℕ) (w : ℤ) (near : Bool) (j : Join) → let v = join_answer k w near j in (v.refusal ≡ 5 → v.bend ≡ j.position) × (v.refusal ≢ 5 → v.bend ≡ 0)
unfolding join_answer
answer-bend k w near j = bends-by k j (stroke_refusal w near) (eqb (stroke_refusal w near) 0) (is_join_near k j) (stroke-other w near) refl refl

answer-told : {P : Type 0} (k : ℕ) (w : ℤ) (near : Bool) (j : Join) → (near ≡ true) ↔ P → let v = join_answer k w near j in BendTold (Thin w × P) k (λ i. j) 1 v.refusal v.bend
answer-told k w near j exactly =
    let five = (refusal-exactly k w near j exactly (join-near-iff k j)).corners in
    let bend = answer-bend k w near j in
    bend-told k (λ i. j) 1 (λ e. let h = five.0 e in ((h.0, h.1.0), h.1.1), λ h. five.1 (h.0.0, (h.0.1, h.1))) (alone-far k j)
    (λ e. subst (Named k (λ i. j) 1) (sym (bend.0 e)) (alone-named k j (five.0 e).1.1)) bend.1

-- each counts its own points as the list: made, it has the position of its point there, and refused with 5 it names that
made-position : (k : ℕ) (w : ℤ) (near : Bool) (j : Join) → (join_answer k w near j).refusal ≡ 0 → (join_answer k w near j).position ≡ j.position
unfolding join_values
made-position k w near j e = ap (λ v. v.position) ((answer-chosen k w near j).holds e)

module _ (limits : Limits) (a b : Point) (w : ℤ) (o : Offset) where
  pub start-position : (start_answer limits a b w o).refusal ≡ 0 → (start_answer limits a b w o).position ≡ 0
  unfolding start_answer start_of
  start-position = made-position limits.corner w _ (start_of a b w o)

  pub end-position : (end_answer limits a b w o).refusal ≡ 0 → (end_answer limits a b w o).position ≡ 1
  unfolding end_answer
  end-position = made-position limits.corner w _ (standing_at 1 (end_of a b w o))

  pub start-bend : BendTold (Thin w × LineNear limits.point (line_of a b)) limits.corner (λ i. start_of a b w o) 1 (start_answer limits a b w o).refusal (start_answer limits a b w o).bend
  unfolding start_answer
  start-bend = answer-told limits.corner w _ (start_of a b w o) (line-near-iff limits.point (line_of a b))

  pub end-bend : BendTold (Thin w × LineNear limits.point (line_of a b)) limits.corner (λ i. standing_at 1 (end_of a b w o)) 1 (end_answer limits a b w o).refusal (end_answer limits a b w o).bend
  unfolding end_answer
  end-bend = answer-told limits.corner w _ (standing_at 1 (end_of a b w o)) (line-near-iff limits.point (line_of a b))

module _ (limits : Limits) (a b c : Point) (w : ℤ) (o : Offset) where
  pub points-position : (points_answer limits a b c w o).refusal ≡ 0 → (points_answer limits a b c w o).position ≡ 1
  unfolding points_answer
  points-position = made-position limits.corner w _ (standing_at 1 (join_of a b c w o))

  pub points-bend : BendTold (Thin w × (LineNear limits.point (line_of a b) × Near limits.point c)) limits.corner (λ i. standing_at 1 (join_of a b c w o)) 1 (points_answer limits a b c w o).refusal (points_answer limits a b c w o).bend
  unfolding points_answer
  points-bend = answer-told limits.corner w _ (standing_at 1 (join_of a b c w o)) (points-iff limits a b c)

-- ---- answers on a join handed in: inside the limit the answer, else refusal 5 at the join's position with 0 in every other value

-- inside, nothing is refused
filler-free : (l : Option Line) → let v = filler_values (Ok l) in (v.refusal ≡ 0) × (v.bend ≡ 0)
unfolding filler_values
filler-free (Some l) = (refl, refl)
filler-free None = (refl, refl)

caps-free : (c : Caps) → let v = caps_values (Ok c) in (v.refusal ≡ 0) × (v.bend ≡ 0)
unfolding caps_values
caps-free (caps.One l) = (refl, refl)
caps-free (caps.Two l m) = (refl, refl)

-- what is not refused is small enough
pub let-through : (j : Join) (u v : Unit {0}) → Ok u ≡ if_near corner_limit j v → JoinNear line_limit j
unfolding if_near
let-through j u v e = join-room j (else-true (is_join_near corner_limit j) (λ far. let no : Ok u ≡ Err (Corner j.position) = rw far at e in cc))

module _ (k : ℕ) (j : Join) where
  -- whatever values an answer has
  handed-chosen : {A B : Type 0} (values : Result A Refusal → B) (a : A) → Chosen (JoinNear k j) (values (if_near k j a)) (values (Ok a)) (values (Err (Corner j.position)))
  unfolding if_near
  handed-chosen values a =
      let c = chosen (is_join_near k j) (Ok a) (Err (Corner j.position)) (join-near-iff k j) in
      record { holds = λ h. ap values (c.holds h); fails = λ h. ap values (c.fails h) }

  pub filler-chosen : Chosen (JoinNear k j) (filler_answer k j) (filler_values (Ok (filler_of j))) (record { refusal = 5; bend = j.position; found = 0; line = no_line })
  unfolding filler_answer filler_values
  filler-chosen = handed-chosen filler_values (filler_of j)

  pub start-caps-chosen : Chosen (JoinNear k j) (start_caps_answer k j) (caps_values (Ok (start_caps_of j))) (record { refusal = 5; bend = j.position; count = 0; first = no_line; second = no_line })
  unfolding start_caps_answer caps_values
  start-caps-chosen = handed-chosen caps_values (start_caps_of j)

  pub end-caps-chosen : Chosen (JoinNear k j) (end_caps_answer k j) (caps_values (Ok (end_caps_of j))) (record { refusal = 5; bend = j.position; count = 0; first = no_line; second = no_line })
  unfolding end_caps_answer caps_values
  end-caps-chosen = handed-chosen caps_values (end_caps_of j)

  pub degenerate-chosen : Chosen (JoinNear k j) (degenerate_answer k j) (record { refusal = 0; bend = 0; degenerate = is_degenerate j.kind }) (record { refusal = 5; bend = j.position; degenerate = false })
  unfolding degenerate_answer degenerate_values
  degenerate-chosen = handed-chosen degenerate_values (is_degenerate j.kind)

  -- whatever position the join was given
  told : {A : Type 0} {x a b : A} (number bend : A → ℕ) → Chosen (JoinNear k j) x a b → number a ≡ 0 → bend a ≡ 0 → number b ≡ 5 → bend b ≡ j.position → BendTold Unit k (λ i. j) 1 (number x) (bend x)
  told number bend c none zero five is =
      chosen-told k (λ i. j) 1 number bend (is_join_near k j) (join-near-iff k j) c none zero five (λ far. subst (Named k (λ i. j) 1) (sym is) (alone-named k j far)) (alone-far k j)

  pub filler-bend : BendTold Unit k (λ i. j) 1 (filler_answer k j).refusal (filler_answer k j).bend
  filler-bend = let free = filler-free (filler_of j) in told (λ v. v.refusal) (λ v. v.bend) filler-chosen free.0 free.1 refl refl

  pub start-caps-bend : BendTold Unit k (λ i. j) 1 (start_caps_answer k j).refusal (start_caps_answer k j).bend
  start-caps-bend = let free = caps-free (start_caps_of j) in told (λ v. v.refusal) (λ v. v.bend) start-caps-chosen free.0 free.1 refl refl

  pub end-caps-bend : BendTold Unit k (λ i. j) 1 (end_caps_answer k j).refusal (end_caps_answer k j).bend
  end-caps-bend = let free = caps-free (end_caps_of j) in told (λ v. v.refusal) (λ v. v.bend) end-caps-chosen free.0 free.1 refl refl

  pub degenerate-bend : BendTold Unit k (λ i. j) 1 (degenerate_answer k j).refusal (degenerate_answer k j).bend
  degenerate-bend = told (λ v. v.refusal) (λ v. v.bend) degenerate-chosen refl refl refl refl

-- ---- each answer has values of its own: it can be read back from them

abbrev read_kind : ℕ → Kind
read_kind n =
    cond (eqb n 1) kind.Miter
    (cond (eqb n 2) (kind.Bevel Left)
    (cond (eqb n 3) (kind.Bevel Right)
    (cond (eqb n 4) (kind.Degenerate Left)
    (cond (eqb n 5) (kind.Degenerate Right)
    (cond (eqb n 6) kind.Colinear
    (cond (eqb n 7) kind.Start kind.End))))))

abbrev read_join : JoinValues → Result Join Refusal
read_join v =
    cond (eqb v.kind 0) (Err (read_refusal v.refusal v.bend))
    (Ok (record { kind = read_kind v.kind; ending = v.ending; starting = v.starting; origins = v.origins; position = v.position }))

read-kind : (k : Kind) → (eqb (kind_number k) 0 ≡ false) × (read_kind (kind_number k) ≡ k)
read-kind kind.Miter = (refl, refl)
read-kind (kind.Bevel Left) = (refl, refl)
read-kind (kind.Bevel Right) = (refl, refl)
read-kind (kind.Degenerate Left) = (refl, refl)
read-kind (kind.Degenerate Right) = (refl, refl)
read-kind kind.Colinear = (refl, refl)
read-kind kind.Start = (refl, refl)
read-kind kind.End = (refl, refl)

read-join : (r : Result Join Refusal) → read_join (join_values r) ≡ r
unfolding join_values
read-join (Ok j) = simp ((read-kind j.kind).0, (read-kind j.kind).1)
read-join (Err r) = ap Err (read-refusal r)

pub join-values-tell : (r s : Result Join Refusal) → join_values r ≡ join_values s → r ≡ s
join-values-tell r s e = sym (read-join r) ∙ ap read_join e ∙ read-join s

abbrev read_filler : FillerValues → Result (Option Line) Refusal
read_filler v = cond (eqb v.found 0) (Err (read_refusal v.refusal v.bend)) (Ok (cond (eqb v.found 1) None (Some v.line)))

read-filler : (r : Result (Option Line) Refusal) → read_filler (filler_values r) ≡ r
unfolding filler_values
read-filler (Ok (Some l)) = refl
read-filler (Ok None) = refl
read-filler (Err r) = ap Err (read-refusal r)

pub filler-values-tell : (r s : Result (Option Line) Refusal) → filler_values r ≡ filler_values s → r ≡ s
filler-values-tell r s e = sym (read-filler r) ∙ ap read_filler e ∙ read-filler s

abbrev read_caps : CapsValues → Result Caps Refusal
read_caps v = cond (eqb v.count 0) (Err (read_refusal v.refusal v.bend)) (Ok (cond (eqb v.count 1) (caps.One v.first) (caps.Two v.first v.second)))

read-caps : (r : Result Caps Refusal) → read_caps (caps_values r) ≡ r
unfolding caps_values
read-caps (Ok (caps.One l)) = refl
read-caps (Ok (caps.Two l m)) = refl
read-caps (Err r) = ap Err (read-refusal r)

pub caps-values-tell : (r s : Result Caps Refusal) → caps_values r ≡ caps_values s → r ≡ s
caps-values-tell r s e = sym (read-caps r) ∙ ap read_caps e ∙ read-caps s

abbrev read_degenerate : Judged → Result Bool Refusal
read_degenerate v = cond (eqb v.refusal 0) (Ok v.degenerate) (Err (read_refusal v.refusal v.bend))

read-degenerate : (r : Result Bool Refusal) → read_degenerate (degenerate_values r) ≡ r
unfolding degenerate_values
read-degenerate (Ok b) = refl
read-degenerate (Err r) = rw (numbered r) (ap Err (read-refusal r))

pub degenerate-values-tell : (r s : Result Bool Refusal) → degenerate_values r ≡ degenerate_values s → r ≡ s
degenerate-values-tell r s e = sym (read-degenerate r) ∙ ap read_degenerate e ∙ read-degenerate s
