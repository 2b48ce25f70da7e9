-- A lease is made of the right to free a block, and tells its machine value.
use mathlib.Core.Path.{◌≡◌, refl, ◌∙◌}
use Prim.Native.Nat.{ℕ}
use mathlib.Core.List.{List, [], ◌∷◌, ◌++◌}
use seplogic.Ra.Ura.{Ura}
use mir.Val.{Val, vstruct, vcons, vnil, of_list}
use base.Logic.{ent, emp}
use base.Fml.{Fml}
use types.Logic.{Logic, sem}
use types.Kit.{Goal, Step, step, Item, ‵, ◌$◌, use0, fjoin}
use denote.RattleType.{RattleType}
use denote.RawPtr.{block_ptr}
use denote.Shadow.{shadow, makes_shadow}
use denote.Struct.Struct.{Struct}
use denote.Struct.Owning.{shape}
use Rattle.core.proofs.mem.Param.{El, R}
use Rattle.core.proofs.alloc.Calls.{Al, token}
use Rattle.core.proofs.slots.Leases.{P, block_ty}
use Rattle.desk_arena.specs.contracts.places.Lease as lease

abbrev pub lease_val : Val
lease_val = vstruct (vcons (vstruct vnil) vnil)

module _ (E : El) (Z : Al) where
  abbrev pub Lr : RattleType
  Lr = lease.the_row (R E) (P E Z) Z.g

  abbrev pub lease_of : Z.row.Denot → ℕ → ℕ → ℕ → Lr.Denot
  lease_of a b o n = record { by = record {}; at = block_ptr b o; len = n; alloc = a }

  -- what a lease has beside the right
  abbrev pub lease_own : List Val → Fml
  lease_own = (Struct (shape (lease.the_type (R E) (P E Z) Z.g))).own_val (tt, tt)

  pub lease_reported : (vs : List Val) → shadow (lease_own vs) → vs ≡ lease_val ∷ []
  lease_reported vs s = s.1.0 ∙ (λ i. vstruct (of_list (s.1.1.0.1.0 i ++ [])) ∷ [])

  module _ {M : Type 1} {𝓤 : Ura M} (𝓛 : Logic 𝓤) where
    lease_words : ent 𝓤 (emp 𝓤) (sem 𝓛 (lease_own (lease_val ∷ [])))
    lease_words = makes_shadow 𝓛 (lease_own (lease_val ∷ [])) (λ _. (tt, ((λ _. (tt, tt)), tt)))
        ((vstruct vnil ∷ [], tt), (refl, ((tt, (refl, tt)), tt)))

  module _ {M : Type 1} {𝓤 : Ura M} {𝓛 : Logic 𝓤} {K : Type 0} {Γ : List (Item 𝓤)} {G : Goal 𝓤 𝓛.H} where
    pub lease_made : K → (a : Z.row.Denot) (b o n : ℕ)
        → Step K 𝓛 (‵ (Lr.own_val (lease_of a b o n) (lease_val ∷ [])) ∷ Γ) G
        (‵ (token Z a (block_ty E n) (block_ptr b o)) ∷ Γ) G
    lease_made t a b o n = step (λ s. use0 𝓛 (‵ (lease_own (lease_val ∷ []))) (lease_words 𝓛) $ fjoin t $ s)
