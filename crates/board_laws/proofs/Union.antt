-- What one more run makes of a list of runs: the columns lit are those of both, and the list still ascends with a dark column
-- between neighbours. Assumes nothing.
use mathlib.Core.Path.{◌≡◌, refl}
use mathlib.Core.Bool.{Bool, true, false, ◌||◌, or_assoc}
use mathlib.Core.List.{List, [], ◌∷◌}
use Prim.Native.Nat.{ℕ, suc}
use native.Mathlib.Nat.{le_refl}
use lib.IntN.{ℤ, pos}
use lib.Signed.{lt_z}
use Rattle.whole.proofs.Tests.{or_swap}
use Rattle.whole.proofs.Columns.{lt-lesser, greater-le, between-joined}
use Rattle.whole.proofs.Laws.{lesser-le, le-greater}
use Rattle.whole.proofs.Orders.{ordered}
use Rattle.board.specs.declared.Run.{Run}
use Rattle.board.specs.Runs.{in_run, lit, joined, with_run, Follows, Ascending, none, then}
use Rattle.board.proofs.Sound.{follows-from, ascending-from}

-- ---- the columns

lit-by : (r q : Run) (qs : List Run) (x : ℤ) (t u : Bool) → lt_z r.end q.start ≡ t → lt_z q.end r.start ≡ u
    → ((p : Run) → lit (with_run p qs) x ≡ (in_run p x || lit qs x)) → lit (with_run r (q ∷ qs)) x ≡ (in_run r x || lit (q ∷ qs) x)
unfolding lit with_run joined
lit-by r q qs x true u e f more = rw e
lit-by r q qs x false true e f more = rw (e, f, more r) (or_swap (in_run q x) (in_run r x) (lit qs x))
lit-by r q qs x false false e f more =
    rw (e, f, more (joined r q), between-joined r.start r.end q.start q.end x e f) (or_assoc (in_run r x) (in_run q x) (lit qs x))

pub lit-with : (r : Run) (rs : List Run) (x : ℤ) → lit (with_run r rs) x ≡ (in_run r x || lit rs x)
unfolding lit with_run
lit-with r [] x = refl
lit-with r (q ∷ qs) x = lit-by r q qs x (lt_z r.end q.start) (lt_z q.end r.start) refl refl (λ p. lit-with p qs x)

-- ---- the order

joined-follows : {k : ℕ} {last : ℤ} (r q : Run) → Follows k last r → Follows k last q → Follows k last (joined r q)
unfolding joined
joined-follows {k} {last} r q f g =
    record {
      apart = lt-lesser last r.start q.start f.apart g.apart;
      some = omega (ordered, lesser-le r.start q.start, le-greater r.end q.end);
      inside = greater-le r.end q.end (pos (suc k)) f.inside g.inside;
    }

ascending-by : {k : ℕ} {last : ℤ} (r q : Run) (qs : List Run) (t u : Bool) → lt_z r.end q.start ≡ t → lt_z q.end r.start ≡ u
    → Follows k last r → Follows k last q → Ascending k q.end qs
    → ((m : ℤ) (p : Run) → Follows k m p → Ascending k m qs → Ascending k m (with_run p qs)) → Ascending k last (with_run r (q ∷ qs))
unfolding with_run
ascending-by {k} r q qs true u e f F G a more = rw e (then F (then {last = r.end} (follows-from G (omega ordered) (le_refl k)) a))
ascending-by {k} r q qs false true e f F G a more = rw (e, f) (then G (more q.end r (follows-from F (omega ordered) (le_refl k)) a))
ascending-by {k} {last} r q qs false false e f F G a more = rw (e, f) (more last (joined r q) (joined-follows r q F G) (ascending-from a (omega ordered) (le_refl k)))

pub ascending-with : {k : ℕ} {last : ℤ} (r : Run) (rs : List Run) → Follows k last r → Ascending k last rs → Ascending k last (with_run r rs)
unfolding with_run
ascending-with r [] f a = then f none
ascending-with r (q ∷ qs) f (then g a) =
    ascending-by r q qs (lt_z r.end q.start) (lt_z q.end r.start) refl refl f g a (λ m p. ascending-with {last = m} p qs)
