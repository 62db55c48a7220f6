-- Lists of runs that ascend with a dark column between neighbours: what is dark, that the lit columns settle the list, and that its
-- total counts them. Assumes nothing.
use mathlib.Core.Path.{◌≡◌, refl, sym, ap, ◌∙◌}
use mathlib.Core.Bool.{Bool, true, false}
use mathlib.Core.List.{List, ◌∷◌}
use Prim.Native.Nat.{ℕ, suc, ◌+◌, ◌*◌}
use native.Mathlib.Nat.{le_refl}
use lib.IntN.{ℤ, pos, negsuc, neg_ℤ, ◌+ℤ◌, ◌-ℤ◌}
use lib.Signed.{lt_z, ◌≤ℤ◌}
use Rattle.whole.specs.Columns.{count_from}
use Rattle.whole.proofs.Linear.{linear, sum, opp}
use Rattle.whole.proofs.Orders.{ordered}
use Rattle.whole.proofs.Tests.{clash}
use Rattle.whole.proofs.Columns.{between-yes, between-low, between-high, between-lt, count_none, count-either, count-between}
use Rattle.board.specs.declared.Run.{Run}
use Rattle.board.specs.Runs.{run_of, in_run, lit, total, Follows, Ascending, none, then, edge}
use Rattle.board.proofs.Sound.{follows-from}
use Rattle.board_laws.specs.Histories.{columns}

-- ---- what is dark, and what is lit

pub dark : {k : ℕ} {last : ℤ} {rs : List Run} → Ascending k last rs → (x : ℤ) → x ≤ℤ last → lit rs x ≡ false
unfolding lit
dark none x h = refl
dark (then {r} f a) x h = rw (between-low r.start r.end x (omega ordered), dark a x (omega ordered))

-- a run's own first column, and the column after it
module _ {k : ℕ} {last : ℤ} {r : Run} (f : Follows k last r) where
  pub first_lit : (rs : List Run) → lit (r ∷ rs) r.start ≡ true
  unfolding lit
  first_lit rs = rw (between-yes r.start r.end r.start (omega ordered) (omega ordered))

  pub gap-dark : {rs : List Run} → Ascending k r.end rs → lit (r ∷ rs) r.end ≡ false
  unfolding lit
  gap-dark a = rw (between-high r.start r.end r.end (omega ordered), dark a r.end (omega ordered))

-- ---- the lit columns settle the list

module _ {k m : ℕ} {l n : ℤ} {r q : Run} {rs qs : List Run} (f : Follows k l r) (a : Ascending k r.end rs)
    (g : Follows m n q) (b : Ascending m q.end qs) (same : (x : ℤ) → lit (r ∷ rs) x ≡ lit (q ∷ qs) x) where
  no-earlier : (t : Bool) → lt_z q.start r.start ≡ t → t ≡ false
  no-earlier false e = refl
  no-earlier true e =
      let before = dark (then {last = q.start} (follows-from f (omega ordered) (le_refl k)) a) q.start (omega ordered) in
      sym (first_lit g qs) ∙ (sym (same q.start) ∙ before)

  no_longer : r.start ≡ q.start → (t : Bool) → lt_z r.end q.end ≡ t → t ≡ false
  unfolding lit
  no_longer begin false e = refl
  no_longer begin true e =
      let over : lit (q ∷ qs) r.end ≡ true = rw (between-yes q.start q.end r.end (omega ordered) e) in
      sym over ∙ (sym (same r.end) ∙ gap-dark f a)

  tails-by : r.end ≡ q.end → (x : ℤ) (t : Bool) → lt_z r.end x ≡ t → lit rs x ≡ lit qs x
  unfolding lit
  tails-by finish x false e = dark a x (omega ordered) ∙ sym (dark b x (omega ordered))
  tails-by finish x true e =
      rw (between-high r.start r.end x (omega ordered), between-high q.start q.end x (omega ordered)) at (same x)

pub settled : {k m : ℕ} {l n : ℤ} {rs qs : List Run} → Ascending k l rs → Ascending m n qs → ((x : ℤ) → lit rs x ≡ lit qs x) → rs ≡ qs
unfolding lit
settled none none same = refl
settled none (then {r} {rs} g b) same = absurd (clash (first_lit g rs) (sym (same r.start)))
settled (then {r} {rs} f a) none same = absurd (clash (first_lit f rs) (same r.start))
settled (then {r} {rs} f a) (then {r = q} {rs = qs} g b) same =
    let back : (x : ℤ) → lit (q ∷ qs) x ≡ lit (r ∷ rs) x = λ x. sym (same x) in
    let p = no-earlier f a g b same (lt_z q.start r.start) refl in
    let p' = no-earlier g b f a back (lt_z r.start q.start) refl in
    let begin : r.start ≡ q.start = omega ordered in
    let o = no_longer f a g b same begin (lt_z r.end q.end) refl in
    let o' = no_longer g b f a back (sym begin) (lt_z q.end r.end) refl in
    let finish : r.end ≡ q.end = omega ordered in
    let tails = settled a b (λ x. tails-by f a g b same finish x (lt_z r.end x) refl) in
    rw tails (ap (λ s. run_of s r.end ∷ qs) begin ∙ ap (λ e. run_of q.start e ∷ qs) finish)

-- ---- the total counts the lit columns, among any n from x on that hold them all

pub total-counts : {k : ℕ} {last : ℤ} {rs : List Run} → Ascending k last rs → (x : ℤ) (n : ℕ) → x ≤ℤ (last +ℤ pos 1) → pos (suc k) ≤ℤ (x +ℤ pos n)
    → total rs ≡ pos (count_from (lit rs) x n)
unfolding lit total
total-counts none x n p q = ap pos (sym (count_none x n))
total-counts {last} (then {r} {rs} f a) x n p q =
    let once = count-either (in_run r) (lit rs) x n (λ y h. dark a y (omega (ordered, between-lt r.start r.end y h))) in
    let here = count-between r.start r.end x n (omega (ordered, sum last (pos 1))) (omega ordered) (omega ordered) in
    let rest = total-counts a x n (omega (ordered, sum last (pos 1), sum r.end (pos 1))) q in
    omega (linear, once, sum (r.end -ℤ r.start) (total rs))

-- those from -k to k hold them all
pub total-columns : {k : ℕ} {rs : List Run} → Ascending k (edge k) rs → total rs ≡ pos (columns k (lit rs))
total-columns {k} a =
    total-counts a (neg_ℤ (pos k)) (2 * k + 1) (omega (linear, opp (pos k), sum (negsuc k) (pos 1))) (omega (linear, opp (pos k), sum (neg_ℤ (pos k)) (pos (2 * k + 1))))
