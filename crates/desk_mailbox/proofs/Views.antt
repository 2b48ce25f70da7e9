-- What holds of each view of a list, where one of them is set or put after it; and whose a number is.
use Rattle.std.proofs.Common.{◌≡◌, ◌≢◌, ◌⊎◌, ◌==◌, ℕ, zero, suc, cond, List, [], ◌∷◌, ◌++◌, length, set, sym, refl}
use Rattle.std.proofs.Common.{ap, subst, inl, inr, ⊎_elim, eq-eqb, ne_eqb}
use mathlib.Core.Option.{some, some-injective, some-ne-none}
use lib.ListN.{get_elem?}
use Rattle.atomic_table.proofs.Lists.{at_set}

-- the passes of the senders, one of which has another pass now
abbrev pub with_owner : (ℕ → ℕ) → ℕ → ℕ → ℕ → ℕ
with_owner owner number pass k = cond (k == number) pass (owner k)

pub owner_here : (owner : ℕ → ℕ) (number pass : ℕ) → with_owner owner number pass number ≡ pass
owner_here owner number pass = ap (λ b. cond b pass (owner number)) (eq-eqb number number refl)

pub owner_else : (owner : ℕ → ℕ) (number pass k : ℕ) → k ≢ number → with_owner owner number pass k ≡ owner k
owner_else owner number pass k n = ap (λ b. cond b pass (owner k)) (ne_eqb k number n)

module _ {V : Type 0} where
  pub at_back : (l : List V) (a b : V) (j : ℕ) → get_elem? (l ++ a ∷ []) j ≡ some b →
      (get_elem? l j ≡ some b) ⊎ ((a ≡ b) × (j ≡ length l))
  at_back [] a b zero e = inr (some-injective a b e, refl)
  at_back [] a b (suc j) e = absurd (some-ne-none b (sym e))
  at_back (x ∷ xs) a b zero e = inl e
  at_back (x ∷ xs) a b (suc j) e =
      ⊎_elim (λ t. inl t) (λ (t : (a ≡ b) × (j ≡ length xs)). inr (t.0, ap suc t.1)) (at_back xs a b j e)

  -- each view of a list, with its pass, is so
  abbrev pub EachView : (ℕ → V → Type 0) → List V → Type 0
  EachView F views = (pass : ℕ) (v : V) → get_elem? views pass ≡ some v → F pass v

  pub EachView-set : (F : ℕ → V → Type 0) (views : List V) (pass : ℕ) (w : V) → F pass w →
      ((j : ℕ) (u : V) → j ≢ pass → get_elem? views j ≡ some u → F j u) → EachView F (set views pass w)
  EachView-set F views pass w own others j u e =
      ⊎_elim
      (λ (x : (j ≡ pass) × (w ≡ u)). subst (λ (y : ℕ × V). F y.0 y.1) (λ i. (sym x.0 i, x.1 i)) own)
      (λ (x : (j ≢ pass) × (get_elem? views j ≡ some u)). others j u x.0 x.1)
      (at_set views pass j w u e)

  pub EachView-push : (F : ℕ → V → Type 0) (views : List V) (a : V) → EachView F views → F (length views) a →
      EachView F (views ++ a ∷ [])
  EachView-push F views a old new j u e =
      ⊎_elim
      (λ (x : get_elem? views j ≡ some u). old j u x)
      (λ (x : (a ≡ u) × (j ≡ length views)). subst (λ (y : ℕ × V). F y.0 y.1) (λ i. (sym x.1 i, x.0 i)) new)
      (at_back views a u j e)
