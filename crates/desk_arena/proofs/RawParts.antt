-- What the two raw calls of a row of slots ask for and give, and a lease.
use mathlib.Core.Path.{◌≡◌, refl, sym, subst, ap, ◌∙◌}
use mathlib.Core.Bool.{Bool}
use Prim.Native.Nat.{ℕ, ◌*◌, ◌<◌, ◌^◌}
use mathlib.Core.List.{List, [], ◌∷◌, ◌++◌}
use lib.Dec.{T}
use lib.ListN.{length}
use seplogic.Ra.Ura.{Ura}
use mir.Syntax.{w64}
use mir.Val.{Val, vint, vptr, vstruct, of_list, has_ty, WT}
use base.Logic.{SProp, ent, sep, ex, guard, emp, id⊢}
use base.Fml.{Lft, Share, ftrue, fsep, flft}
use prog.Memory.{Memory}
use prog.Routine.{Routine}
use types.Logic.{Logic, sem}
use contract.BorrowLft.{◌⊑◌}
use contract.Monad.{Fun, fact, fact_i}
use types.Kit.{Goal, Seq, Item, ‵, raw, ◌⊛◌, some, later, ◌$◌, ◌∵◌, !, qed, move, keep, drop, use0, use1, split}
use types.Kit.{join, pick, rewrite, fsplit, fsplit3, fjoin, fjoin3, fpick, feq_l, feq_i, flt_i, check, show, await}
use types.Kit.{updating, now, done}
use denote.RattleType.{RattleType}
use denote.Builtin.{usize}
use denote.Param.{layout}
use denote.RawPtr.{Ptr, RawPtr, block_ptr, in_block}
use denote.Steps.{only, heard, nothing}
use denote.Struct.Tuple.{Tuple}
use denote.Triple.Spec.{triple_of}
use denote.Triple.Statement.{Contract}
use Rattle.core.specs.Mem.Slots.Ownership.{slots, owned}
use Rattle.core.specs.Mem.Slots.{slots_items, slots_filled, slots_ptr, slots_len}
use Rattle.core.specs.contracts.slots.Slots.from_raw_parts as from
use Rattle.core.specs.contracts.slots.Slots.into_raw_parts as into
use Rattle.core.proofs.mem.Param.{El, el_x, R}
use Rattle.core.proofs.slots.Places.{sz}
use Rattle.core.proofs.slots.Opens.{Sr, words_val, row_val, row_had, row_made}

pub words_good : (b o n : ℕ) → n < 2 ^ 64 → WT (row_val b o n)
words_good b o n fits = (tt, (record { fits = fits }, tt))

pub parts_typed : (v : Val) (b o n : ℕ) → v ≡ row_val b o n → n < 2 ^ 64 →
    T (has_ty (layout (Tuple (RawPtr ∷ usize ∷ []))) v) × WT v
parts_typed v b o n e fits =
    subst (λ (z : Val). T (has_ty (layout (Tuple (RawPtr ∷ usize ∷ []))) z) × WT z) (sym e)
    (tt, words_good b o n fits)

module _ (E : El) where
  pub row_typed : (v : Val) (b o n : ℕ) → v ≡ row_val b o n → n < 2 ^ 64 → T (has_ty (layout (Sr E)) v) × WT v
  row_typed v b o n e fits = subst (λ (z : Val). T (has_ty (layout (Sr E)) z) × WT z) (sym e)
      (tt, words_good b o n fits)

module _ (E : El) {M : Type 1} {𝓤 : Ura M} {𝓛 : Logic 𝓤} {K : Type 0} {Γ : List (Item 𝓤)} {G : Goal 𝓤 𝓛.H} where
  -- the row's two words are learned, and the row stays
  pub row_seen : K → (r : (Sr E).Denot) (vs : List Val)
      → ((b o : ℕ) → slots_ptr r ≡ block_ptr b o → vs ≡ row_val b o (slots_len r) ∷ [] → slots_len r < 2 ^ 64 →
      slots_len r * sz E < 2 ^ 63 → Seq K 𝓛 (‵ ((Sr E).own_val r (row_val b o (slots_len r) ∷ [])) ∷ Γ) G)
      → Seq K 𝓛 (‵ ((Sr E).own_val r vs) ∷ Γ) G
  row_seen t r vs k = row_had E t r vs (λ b o at e fits fit. row_made E t r b o at fits fit $ k b o at e fits fit)

module _ (E : El) {M : Type 1} {𝓤 : Ura M} (𝓛 : Logic 𝓤) (at_mem : Memory → SProp 𝓤) (run : Routine → Fun 𝓤)
    (κ : Lft) (q : Share) (b o : ℕ) where
  open 𝓛 use {H, A}

  abbrev pub From : Contract 𝓤
  From = triple_of 𝓛 (from.signature E.row) (from.spec E.row 𝓛 at_mem run)

  abbrev pub Into : Contract 𝓤
  Into = triple_of 𝓛 (into.signature E.row) (into.spec E.row 𝓛 at_mem run)

  module _ (n : ℕ) (xs : List (el_x E)) (fs : List Bool) where
    abbrev pub at_from : From.Ghost
    at_from = (((κ, tt), (q, tt), tt, (block_ptr b o, (n, tt)), (vptr b o ∷ [], (vint w64 n ∷ [], tt))), (xs, fs))

    abbrev pub Made : (Sr E).Denot → Type 0
    Made r = (slots_ptr r ≡ block_ptr b o) × (slots_len r ≡ n) × (slots_items r ≡ xs) × (slots_filled r ≡ fs)

    pub from_asks : κ ⊑ E.row.lives → n ≡ length xs → n ≡ length fs → n < 2 ^ 64 → n * sz E < 2 ^ 63
        → ent 𝓤 (sep 𝓤 (sem 𝓛 (slots (R E) (block_ptr b o) xs fs)) (A.lft κ q)) (From.pre at_from)
    from_asks le lx lf fits fit =
        let Ok : Type 0 = (n ≡ length xs) × (n ≡ length fs) in
        qed 𝓛 (‵ (slots (R E) (block_ptr b o) xs fs) ∷ ‵ (flft κ q) ∷ []) ∵ flt_i ! (n * sz E) (2 ^ 63) fit $ fjoin ! $
        use0 𝓛 (raw (fact 𝓤 Ok)) (fact_i 𝓤 Ok (emp 𝓤) (lx, lf)) $ join ! $ use0 𝓛 (raw (fact 𝓤 (κ ⊑ E.row.lives)))
        (fact_i 𝓤 (κ ⊑ E.row.lives) (emp 𝓤) le) $ join ! $
        nothing ! $ flt_i ! n (2 ^ 64) fits $ feq_i ! (List Val) (vint w64 n ∷ [])
        (vint w64 n ∷ []) refl $ fjoin ! $ feq_i ! (List Val) (vptr b o ∷ []) (vptr b o ∷ []) refl $ fjoin3 ! $
        nothing ! $ move ! (3 ∷ 0 ∷ []) $ join ! $ join ! $ done !

    pub from_gives : (v : Val) → ent 𝓤 (From.post at_from v)
        (H.⇛ (ex 𝓤 (λ (r : (Sr E).Denot). guard 𝓤 ((v ≡ row_val b o n) × Made r)
        (sep 𝓤 (sem 𝓛 ((Sr E).own_val r (row_val b o n ∷ []))) (A.lft κ q)))))
    from_gives v =
        qed 𝓛 (raw (From.post at_from v) ∷ []) ∵ updating ! $
        use1 𝓛 (later (some (λ (r : (Sr E).Denot). ((‵ (flft κ q) ⊛ ‵ ftrue) ⊛ ‵ ((Sr E).own_val r (v ∷ []))) ⊛ some
        (λ (ws : Unit {0} × (Unit {0} × Unit {0})). ‵ (fsep ftrue (fsep ftrue ftrue)) ⊛ raw
        (fact 𝓤 (Made r)))))) (id⊢ 𝓤 _) $ await ! tt $ pick ! (λ r.
        split ! $ move ! (1 ∷ []) $ pick !
        (λ ws. split ! $ drop ! $ heard ! (Made r)
        (λ is. split ! $ split ! $ move ! (2 ∷ []) $ row_seen E ! r (v ∷ []) (λ b' o' at e fits fit.
        let same : row_val b' o' (slots_len r) ≡ row_val b o n = λ i. words_val ((sym at ∙ is.0) i) (is.1 i) in
        rewrite ! 0 (λ (u : Val). ‵ ((Sr E).own_val r (u ∷ []))) same refl $ now ! $
        show ! (λ (d : (Sr E).Denot). guard 𝓤 ((v ≡ row_val b o n) × Made d)
        (sep 𝓤 (sem 𝓛 ((Sr E).own_val d (row_val b o n ∷ []))) (A.lft κ q))) r $ check !
        (ap only e ∙ same, is) $ keep ! (0 ∷ 1 ∷ []) $ done !))))

  module _ (r : (Sr E).Denot) where
    abbrev pub at_into : Into.Ghost
    at_into = (((κ, tt), (q, tt), tt, (r, tt), (row_val b o (slots_len r) ∷ [], tt)), tt)

    pub into_asks : κ ⊑ E.row.lives →
        ent 𝓤 (sep 𝓤 (sem 𝓛 ((Sr E).own_val r (row_val b o (slots_len r) ∷ []))) (A.lft κ q)) (Into.pre at_into)
    into_asks le =
        qed 𝓛 (‵ ((Sr E).own_val r (row_val b o (slots_len r) ∷ [])) ∷ ‵ (flft κ q) ∷ []) ∵ nothing ! $ use0 𝓛
        (raw (fact 𝓤 (κ ⊑ E.row.lives))) (fact_i 𝓤 (κ ⊑ E.row.lives) (emp 𝓤) le) $ join ! $
        nothing ! $ move ! (2 ∷ 0 ∷ []) $ fjoin ! $ nothing ! $ move ! (3 ∷ 0 ∷ []) $ join ! $ join ! $ done !

    pub into_gives : (v : Val) → slots_ptr r ≡ block_ptr b o → ent 𝓤 (Into.post at_into v)
        (H.⇛ (guard 𝓤 (v ≡ row_val b o (slots_len r))
        (sep 𝓤 (sem 𝓛 (slots (R E) (block_ptr b o) (slots_items r) (slots_filled r))) (A.lft κ q))))
    into_gives v at =
        let Parts : RattleType = Tuple (RawPtr ∷ usize ∷ []) in
        qed 𝓛 (raw (Into.post at_into v) ∷ []) ∵ updating ! $
        use1 𝓛 (later (some (λ (p : Parts.Denot). ((‵ (flft κ q) ⊛ ‵ ftrue) ⊛ ‵ (Parts.own_val p (v ∷ []))) ⊛ some
        (λ (ws : Unit {0} × Unit {0}). ‵ (fsep ftrue ftrue)
        ⊛ raw (fact 𝓤 ((p.0 ≡ slots_ptr r) × (p.1 ≡ slots_len r))) ⊛ ‵
        (owned (R E) (slots_ptr r) (slots_len r) (slots_items r) (slots_filled r))))))
        (id⊢ 𝓤 _) $ await ! tt $ pick ! (λ p.
        split ! $ move ! (1 ∷ []) $ pick !
        (λ ws. split ! $ drop ! $ split ! $ heard ! ((p.0 ≡ slots_ptr r) × (p.1 ≡ slots_len r))
        (λ is. fsplit ! $ drop ! $
        rewrite ! 0 (λ (z : Ptr). ‵ (in_block z (slots (R E) z (slots_items r) (slots_filled r)))) at refl $ move !
        (1 ∷ []) $ split ! $ split ! $ move ! (2 ∷ []) $
        fpick ! (λ vss. fsplit ! $ feq_l ! (λ whole. fsplit3 ! $ feq_l ! (λ e₀. fsplit ! $ feq_l ! (λ e₁. now ! $
        check ! (ap only whole ∙ (λ i. vstruct (of_list (e₀ i ++ (e₁ i ++ []))))
        ∙ (λ i. words_val ((is.0 ∙ at) i) (is.1 i))) $ keep ! (4 ∷ 2 ∷ []) $ done !)))))))
