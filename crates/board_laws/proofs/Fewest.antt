-- No list of runs lights the columns of an ascending one with fewer runs, in whatever order they stand, touching, overlapping or
-- not: the runs that begin after the end of the first ascending one are fewer, and light what the others of it light. Assumes nothing.
use mathlib.Core.Path.{◌≡◌, refl, sym, ◌∙◌}
use mathlib.Core.Bool.{Bool, true, false, cond, false≢true}
use mathlib.Core.List.{List, [], ◌∷◌}
use Prim.Native.Nat.{ℕ, ◌≤◌, ◌<◌, zero-le}
use native.Mathlib.Nat.{le_refl}
use native.Mathlib.Omega.{arith}
use lib.IntN.{ℤ}
use lib.ListN.{length}
use lib.Signed.{lt_z, ◌≤ℤ◌, ◌<ℤ◌}
use Rattle.whole.proofs.Tests.{or_left, or_right}
use Rattle.whole.proofs.Orders.{ordered}
use Rattle.whole.proofs.Columns.{between-yes, between-low, between-high}
use Rattle.board.specs.declared.Run.{Run}
use Rattle.board.specs.Runs.{in_run, lit, Follows, Ascending, none, then}
use Rattle.board_laws.proofs.Lit.{dark, first_lit, gap-dark}

-- the runs of a list that begin after a column e
later : ℤ → List Run → List Run
later e [] = []
later e (q ∷ qs) = cond (lt_z e q.start) (q ∷ later e qs) (later e qs)

-- a run that begins at e or before, and does not light e, lights nothing after e
ends_by : (q : Run) (e x : ℤ) → q.start ≤ℤ e → e <ℤ x → (t : Bool) → lt_z e q.end ≡ t → in_run q e ≡ false → in_run q x ≡ false
ends_by q e x l after true h off = absurd (false≢true (sym off ∙ between-yes q.start q.end e (omega ordered) h))
ends_by q e x l after false h off = between-high q.start q.end x (omega ordered)

ends-before : (q : Run) (e x : ℤ) → q.start ≤ℤ e → in_run q e ≡ false → e <ℤ x → in_run q x ≡ false
ends-before q e x l off after = ends_by q e x l after (lt_z e q.end) refl off

-- ---- one run more

module _ (e : ℤ) (q : Run) (qs : List Run) where
  fewer-by : (t : Bool) → lt_z e q.start ≡ t → length (later e qs) ≤ length qs → length (later e (q ∷ qs)) ≤ length (q ∷ qs)
  unfolding later
  fewer-by true h more = rw h (omega arith)
  fewer-by false h more = rw h (omega arith)

  -- up to e they are dark
  dark-by : (x : ℤ) → x ≤ℤ e → (t : Bool) → lt_z e q.start ≡ t → lit (later e qs) x ≡ false → lit (later e (q ∷ qs)) x ≡ false
  unfolding later lit
  dark-by x l true h more = rw (h, between-low q.start q.end x (omega ordered), more)
  dark-by x l false h more = rw h more

  -- after e they light what all do, where e itself is dark
  same_by : (x : ℤ) → e <ℤ x → (t : Bool) → lt_z e q.start ≡ t → in_run q e ≡ false → lit qs x ≡ lit (later e qs) x → lit (q ∷ qs) x ≡ lit (later e (q ∷ qs)) x
  unfolding later lit
  same_by x l true h off more = rw (h, more)
  same_by x l false h off more = rw (h, ends-before q e x (omega ordered) off l) more

  -- they are fewer, where a column up to e is lit
  less_by : (x : ℤ) → x ≤ℤ e → (t : Bool) → lt_z e q.start ≡ t → lit (q ∷ qs) x ≡ true → (lit qs x ≡ true → length (later e qs) < length qs)
      → length (later e qs) ≤ length qs → length (later e (q ∷ qs)) < length (q ∷ qs)
  unfolding later lit
  less_by x l true h on more few =
      let rest = rw (between-low q.start q.end x (omega ordered)) at on in
      let m = more rest in
      rw h (omega arith)
  less_by x l false h on more few = rw h (omega arith)

-- ---- a whole list

fewer : (e : ℤ) (qs : List Run) → length (later e qs) ≤ length qs
unfolding later
fewer e [] = le_refl 0
fewer e (q ∷ qs) = fewer-by e q qs (lt_z e q.start) refl (fewer e qs)

later-dark : (e : ℤ) (qs : List Run) (x : ℤ) → x ≤ℤ e → lit (later e qs) x ≡ false
unfolding later lit
later-dark e [] x l = refl
later-dark e (q ∷ qs) x l = dark-by e q qs x l (lt_z e q.start) refl (later-dark e qs x l)

later_same : (e : ℤ) (qs : List Run) (x : ℤ) → e <ℤ x → lit qs e ≡ false → lit qs x ≡ lit (later e qs) x
unfolding later lit
later_same e [] x l off = refl
later_same e (q ∷ qs) x l off =
    same_by e q qs x l (lt_z e q.start) refl (or_left (in_run q e) (lit qs e) off) (later_same e qs x l (or_right (in_run q e) (lit qs e) off))

later-less : (e : ℤ) (qs : List Run) (x : ℤ) → x ≤ℤ e → lit qs x ≡ true → length (later e qs) < length qs
unfolding later lit
later-less e [] x l on = absurd (false≢true on)
later-less e (q ∷ qs) x l on = less_by e q qs x l (lt_z e q.start) refl on (later-less e qs x l) (fewer e qs)

module _ {k : ℕ} {last : ℤ} {r : Run} {rs : List Run} (f : Follows k last r) (a : Ascending k r.end rs) (qs : List Run)
    (same : (x : ℤ) → lit qs x ≡ lit (r ∷ rs) x) where
  rest-by : (x : ℤ) (t : Bool) → lt_z r.end x ≡ t → lit (later r.end qs) x ≡ lit rs x
  unfolding lit
  rest-by x true h = sym (later_same r.end qs x (omega ordered) (same r.end ∙ gap-dark f a)) ∙ (same x ∙ rw (between-high r.start r.end x (omega ordered)))
  rest-by x false h = later-dark r.end qs x (omega ordered) ∙ sym (dark a x (omega ordered))

pub fewest : {k : ℕ} {last : ℤ} {rs : List Run} → Ascending k last rs → (qs : List Run) → ((x : ℤ) → lit qs x ≡ lit rs x) → length rs ≤ length qs
fewest none qs same = zero-le
fewest (then {r} {rs} f a) qs same =
    let less = later-less r.end qs r.start (omega ordered) (same r.start ∙ first_lit f rs) in
    let rest = fewest a (later r.end qs) (λ x. rest-by f a qs same x (lt_z r.end x) refl) in
    omega arith
