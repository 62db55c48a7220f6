-- An equation between polynomials over ℤ, decided by computing: `ring` and `solve`, at the end. Assumes nothing.
--   name : (x y : ℤ) → (x +ℤ y) *ℤ (x -ℤ y) ≡ x *ℤ x -ℤ y *ℤ y
--   name = ring 2 (λ x y. (x ⊕ y) ⊗ (x ⊖ y) ≈ x ⊗ x ⊖ y ⊗ y) refl
-- The number is that of the variables. `refl` is refused where the equation is false, and shows the terms that are left. Within a proof, at any two terms:
-- `ring 2 (λ x y. ..) refl (f a) b`, whose type needs no writing in a chain by `∙`, in `rw` or `cc`. A literal is `con (pos 3)`.
-- What is no polynomial (a call, a quotient) is a variable. A definition of the statement must unfold: an `abbrev`, or `unfolding d`.
use mathlib.Core.Path.{◌≡◌, refl, sym, ap, ◌∙◌}
use mathlib.Core.Bool.{Bool, true, false}
use mathlib.Core.List.{List, [], ◌∷◌, ◌++◌}
use Prim.Native.Nat.{ℕ, zero, suc}
use lib.Dec.{T, leb, eqb, eqb→eq}
use lib.ListN.{get_or}
use lib.IntN.{ℤ, pos, negsuc, neg_ℤ, ◌+ℤ◌, ◌-ℤ◌, ◌*ℤ◌, +ℤ_assoc, +ℤ_comm, +ℤ_idl, +ℤ_idr, +ℤ_invr, zero-*ℤ, *ℤ-zero}
use Rattle.whole.proofs.Products.{+ℤ-left, *ℤ-+ℤ, +ℤ-*ℤ, *ℤ-assoc, *ℤ-left, -ℤ-zero, *ℤ-id, id-*ℤ, minus-*ℤ}

infixl 6 ◌⊕◌
infixl 6 ◌⊖◌
infixl 7 ◌⊗◌
pub data Expr : Type 0 where
  var : ℕ → Expr
  con : ℤ → Expr
  neg : Expr → Expr
  ◌⊕◌ : Expr → Expr → Expr
  ◌⊖◌ : Expr → Expr → Expr
  ◌⊗◌ : Expr → Expr → Expr

-- what an expression says, its variables being the members of a list
abbrev pub eval : Expr → List ℤ → ℤ
eval (var i) ρ = get_or ρ i (pos 0)
eval (con z) ρ = z
eval (neg a) ρ = neg_ℤ (eval a ρ)
eval (a ⊕ b) ρ = eval a ρ +ℤ eval b ρ
eval (a ⊖ b) ρ = eval a ρ -ℤ eval b ρ
eval (a ⊗ b) ρ = eval a ρ *ℤ eval b ρ

-- a sum of products: each a coefficient and the numbers of its variables, in order
pub data Poly : Type 0 where
  nil : Poly
  term : ℤ → List ℕ → Poly → Poly

-- one more variable in a product
abbrev pub ins : ℕ → List ℕ → List ℕ
ins i [] = i ∷ []
ins i (j ∷ m) = elim (leb i j) [ true ↦ i ∷ (j ∷ m) | false ↦ j ∷ ins i m ]

abbrev pub mul_m : List ℕ → List ℕ → List ℕ
mul_m [] n = n
mul_m (i ∷ m) n = ins i (mul_m m n)

abbrev pub eq_m : List ℕ → List ℕ → Bool
eq_m [] [] = true
eq_m [] (j ∷ n) = false
eq_m (i ∷ m) [] = false
eq_m (i ∷ m) (j ∷ n) = elim (eqb i j) [ true ↦ eq_m m n | false ↦ false ]

-- c times the product m, added
abbrev pub add_t : ℤ → List ℕ → Poly → Poly
add_t c m nil = term c m nil
add_t c m (term d n p) = elim (eq_m m n) [ true ↦ term (c +ℤ d) n p | false ↦ term d n (add_t c m p) ]

-- c m p + q
abbrev pub mac : ℤ → List ℕ → Poly → Poly → Poly
mac c m nil q = q
mac c m (term d n p) q = add_t (c *ℤ d) (mul_m m n) (mac c m p q)

abbrev pub mul_p : Poly → Poly → Poly
mul_p nil q = nil
mul_p (term c m p) q = mac c m q (mul_p p q)

abbrev pub norm : Expr → Poly
norm (var i) = term (pos 1) (i ∷ []) nil
norm (con z) = term z [] nil
norm (neg a) = mac (negsuc 0) [] (norm a) nil
norm (a ⊕ b) = mac (pos 1) [] (norm b) (norm a)
norm (a ⊖ b) = mac (negsuc 0) [] (norm b) (norm a)
norm (a ⊗ b) = mul_p (norm a) (norm b)

-- the terms whose coefficient is not 0
abbrev pub is_z : ℤ → Bool
is_z (pos zero) = true
is_z (pos (suc n)) = false
is_z (negsuc n) = false

abbrev pub left : Poly → Poly
left nil = nil
left (term c m p) = elim (is_z c) [ true ↦ left p | false ↦ term c m (left p) ]

-- ---- what these say
eq_m-eq : (m n : List ℕ) → T (eq_m m n) → m ≡ n
eq_m-eq [] [] t = refl
eq_m-eq [] (j ∷ n) t = absurd t
eq_m-eq (i ∷ m) [] t = absurd t
eq_m-eq (i ∷ m) (j ∷ n) t = go (eqb i j) (eqb→eq i j) (eq_m-eq m n) t
  where
    go : (b : Bool) → (T b → i ≡ j) → (T (eq_m m n) → m ≡ n) → T (elim b [ true ↦ eq_m m n | false ↦ false ]) → i ∷ m ≡ j ∷ n
    go true f g t = cc (f tt, g t)
    go false f g t = absurd t

is_z-eq : (c : ℤ) → T (is_z c) → c ≡ pos 0
is_z-eq (pos zero) t = refl
is_z-eq (pos (suc n)) t = absurd t
is_z-eq (negsuc n) t = absurd t

module _ (ρ : List ℤ) where
  abbrev ev_m : List ℕ → ℤ
  ev_m [] = pos 1
  ev_m (i ∷ m) = get_or ρ i (pos 0) *ℤ ev_m m

  abbrev ev_p : Poly → ℤ
  ev_p nil = pos 0
  ev_p (term c m p) = c *ℤ ev_m m +ℤ ev_p p

  ins-ok : (i : ℕ) (m : List ℕ) → ev_m (ins i m) ≡ get_or ρ i (pos 0) *ℤ ev_m m
  ins-ok i [] = refl
  ins-ok i (j ∷ m) = go (leb i j) (ins-ok i m)
    where
      go : (t : Bool) → ev_m (ins i m) ≡ get_or ρ i (pos 0) *ℤ ev_m m → ev_m (elim t [ true ↦ i ∷ (j ∷ m) | false ↦ j ∷ ins i m ]) ≡ get_or ρ i (pos 0) *ℤ ev_m (j ∷ m)
      go true h = refl
      go false h = ap (λ x. get_or ρ j (pos 0) *ℤ x) h ∙ *ℤ-left (get_or ρ j (pos 0)) (get_or ρ i (pos 0)) (ev_m m)

  mul_m-ok : (m n : List ℕ) → ev_m (mul_m m n) ≡ ev_m m *ℤ ev_m n
  mul_m-ok [] n = sym (id-*ℤ (ev_m n))
  mul_m-ok (i ∷ m) n = ins-ok i (mul_m m n) ∙ ap (λ x. get_or ρ i (pos 0) *ℤ x) (mul_m-ok m n) ∙ sym (*ℤ-assoc (get_or ρ i (pos 0)) (ev_m m) (ev_m n))

  add_t-ok : (c : ℤ) (m : List ℕ) (p : Poly) → ev_p (add_t c m p) ≡ c *ℤ ev_m m +ℤ ev_p p
  add_t-ok c m nil = refl
  add_t-ok c m (term d n p) = go (eq_m m n) (eq_m-eq m n) (add_t-ok c m p)
    where
      go : (t : Bool) → (T t → m ≡ n) → ev_p (add_t c m p) ≡ c *ℤ ev_m m +ℤ ev_p p → ev_p (elim t [ true ↦ term (c +ℤ d) n p | false ↦ term d n (add_t c m p) ]) ≡ c *ℤ ev_m m +ℤ ev_p (term d n p)
      go true e h = simp (e tt, +ℤ-*ℤ, +ℤ_assoc)
      go false e h = ap (λ x. d *ℤ ev_m n +ℤ x) h ∙ +ℤ-left (d *ℤ ev_m n) (c *ℤ ev_m m) (ev_p p)

  mac-ok : (c : ℤ) (m : List ℕ) (p q : Poly) → ev_p (mac c m p q) ≡ c *ℤ ev_m m *ℤ ev_p p +ℤ ev_p q
  mac-ok c m nil q = sym (simp (*ℤ-zero, +ℤ_idl))
  mac-ok c m (term d n p) q = add_t-ok (c *ℤ d) (mul_m m n) (mac c m p q) ∙ simp (mul_m-ok, mac-ok c m p q, *ℤ-+ℤ, *ℤ-assoc, *ℤ-left d, +ℤ_assoc)

  mul_p-ok : (p q : Poly) → ev_p (mul_p p q) ≡ ev_p p *ℤ ev_p q
  mul_p-ok nil q = sym (zero-*ℤ (ev_p q))
  mul_p-ok (term c m p) q = mac-ok c m q (mul_p p q) ∙ ap (λ x. c *ℤ ev_m m *ℤ ev_p q +ℤ x) (mul_p-ok p q) ∙ sym (+ℤ-*ℤ (c *ℤ ev_m m) (ev_p p) (ev_p q))

  norm-ok : (e : Expr) → ev_p (norm e) ≡ eval e ρ
  norm-ok (var i) = simp (*ℤ-id, id-*ℤ, +ℤ_idr)
  norm-ok (con z) = simp (*ℤ-id, +ℤ_idr)
  norm-ok (neg a) = mac-ok (negsuc 0) [] (norm a) nil ∙ simp (minus-*ℤ, +ℤ_idr, norm-ok a)
  norm-ok (a ⊕ b) = mac-ok (pos 1) [] (norm b) (norm a) ∙ simp (id-*ℤ, norm-ok a, norm-ok b) (+ℤ_comm (eval b ρ) (eval a ρ))
  norm-ok (a ⊖ b) = mac-ok (negsuc 0) [] (norm b) (norm a) ∙ simp (minus-*ℤ, norm-ok a, norm-ok b) (+ℤ_comm (neg_ℤ (eval b ρ)) (eval a ρ))
  norm-ok (a ⊗ b) = mul_p-ok (norm a) (norm b) ∙ simp (norm-ok a, norm-ok b)

  left-ok : (p : Poly) → ev_p (left p) ≡ ev_p p
  left-ok nil = refl
  left-ok (term c m p) = go (is_z c) (is_z-eq c) (left-ok p)
    where
      go : (b : Bool) → (T b → c ≡ pos 0) → ev_p (left p) ≡ ev_p p → ev_p (elim b [ true ↦ left p | false ↦ term c m (left p) ]) ≡ c *ℤ ev_m m +ℤ ev_p p
      go true f h = h ∙ sym (simp (f tt, zero-*ℤ, +ℤ_idl))
      go false f h = ap (λ x. c *ℤ ev_m m +ℤ x) h

  zero_ok : (e : Expr) → left (norm e) ≡ nil → eval e ρ ≡ pos 0
  zero_ok e h = sym (norm-ok e) ∙ sym (left-ok (norm e)) ∙ ap ev_p h

-- ---- what a user calls
-- `l ≈ r` is an equation. `since k a b g` is g where a is b: what g says is to follow from k times that
infix 4 ◌≈◌
pub data Goal : Type 0 where
  ◌≈◌ : Expr → Expr → Goal
  since : Expr → Expr → Expr → Goal → Goal

abbrev pub diff : Goal → Expr
diff (l ≈ r) = l ⊖ r
diff (since k a b g) = diff g ⊖ k ⊗ (a ⊖ b)

abbrev pub Says : Goal → List ℤ → Type 0
Says (l ≈ r) ρ = eval l ρ ≡ eval r ρ
Says (since k a b g) ρ = eval a ρ ≡ eval b ρ → Says g ρ

says : (ρ : List ℤ) (g : Goal) → eval (diff g) ρ ≡ pos 0 → Says g ρ
says ρ (l ≈ r) h = -ℤ-zero (eval l ρ) (eval r ρ) h
says ρ (since k a b g) h = λ e. says ρ g (sym (simp (e, +ℤ_invr, *ℤ-zero, +ℤ_idr)) ∙ h)

-- at variables by their names: `ring 2 (λ x y. x ⊗ y ≈ y ⊗ x) refl`
abbrev pub Over : ℕ → Type 0
Over zero = Goal
Over (suc n) = Expr → Over n

abbrev pub at : (n : ℕ) → ℕ → Over n → Goal
at zero i g = g
at (suc n) i f = at n (suc i) (f (var i))

abbrev pub All : ℕ → Goal → List ℤ → Type 0
All zero g ρ = Says g ρ
All (suc n) g ρ = (x : ℤ) → All n g (ρ ++ (x ∷ []))

all : (n : ℕ) (g : Goal) (ρ : List ℤ) → left (norm (diff g)) ≡ nil → All n g ρ
all zero g ρ t = says ρ g (zero_ok ρ (diff g) t)
all (suc n) g ρ t = λ x. all n g (ρ ++ (x ∷ [])) t

pub ring : (n : ℕ) (f : Over n) → left (norm (diff (at n 0 f))) ≡ nil → All n (at n 0 f) []
ring n f t = all n (at n 0 f) [] t

-- the same at a list of numbers, the variables by their places
pub solve : (ρ : List ℤ) (l r : Expr) → left (norm (l ⊖ r)) ≡ nil → eval l ρ ≡ eval r ρ
solve ρ l r t = all 0 (l ≈ r) ρ t
