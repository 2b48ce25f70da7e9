-- The row's places as a slice: a walk.
use mathlib.Core.Path.{◌≡◌, refl, ap, subst, ◌∙◌}
use Prim.Native.Nat.{ℕ, ◌+◌, ◌*◌, ◌<◌, ◌^◌}
use native.Mathlib.Omega.{arith}
use mathlib.Core.List.{List, [], ◌∷◌}
use lib.ListN.{length}
use base.Fraction.{full_share}
use mir.Syntax.{w64, named, ty_ptr}
use mir.MapTy.{inst_fn}
use mir.Val.{Val, vint, vptr}
use base.Logic.{SProp}
use base.Fml.{ftrue, fat, flt, flft}
use contract.BorrowLft.{◌⊑◌}
use contract.Monad.{fact}
use contract.Running.{tables}
use types.Kit.{‵, raw, ◌⊛◌, at_ret, ◌$◌, ◌∵◌, !, qed, move, keep, drop, use1, split, split3, join, rewrite, fsplit}
use types.Kit.{fjoin, feq_i, flt_i, flt_l, suffices, done}
use types.Part.{agg}
use types.Run.{of_opd, and_then, no_more, first, blocks, exec, returns, enter}
use types.ByLocal.{alloc_all, pass_all, free_all, look_at, get, sets, sets_last, take_at, give_at, env}
use denote.Builtin.{usize, RefOf}
use denote.Exit.{yes}
use denote.Memory.{hidden_shr}
use denote.Opens.{hide}
use denote.Plain.{uint_vals, uint_Tells}
use denote.RattleType.{owns}
use denote.RawPtr.{Ptr, RawPtr, ptr_val, in_a_block, rawptr_vals, rawptr_Tells, rawptr_Lawful}
use denote.Ref.{shr_vals, shr_Tells}
use denote.Signature.{plain, types_at}
use denote.Slice.{slice_val, elements_shared}
use denote.Steps.{heard, nothing}
use denote.Triple.Walked.{says, Stays, stay_dropped, walk_of, ends_at, Goes-dropped}
use Rattle.std.proofs.raw_atomic.Walks.{proved}
use Rattle.core.proofs.mem.Param.{El, R, args}
use Rattle.core.proofs.slots.Bodies.{after}
use Rattle.core.proofs.slots.Places.{sz}
use Rattle.core.proofs.slots.Opens.{Sr}
use Rattle.core.proofs.slots.Lent.{shown, none_at_null}
use Rattle.core.specs.Mem.Slots.{slots_items, slots_filled, slots_len, slots_ptr, slots_counts, IsFull}
use Rattle.core.specs.Mem.Slots.Ownership.{slots_lent}
use Rattle.desk_arena.proofs.Shown.{all_shown}
use Rattle.desk_arena.specs.contracts.places.seen.{ended, clauses}
use Rattle.desk_arena.specs.contracts.places.seen.Key.{name as #self}
use Rattle.desk_arena.proofs.places.seen.Statement.{statement}
use Rattle.desk_arena.proofs.places.seen.Code as code

pub seen_spec : {M : Type 1} → statement M
seen_spec 𝓤 𝓛 𝓜 𝓡 wired T L =
    let H = 𝓛.H in let 𝓣 = tables 𝓤 H 𝓜 𝓡 𝓡.env in let E : El = record { row = T; laws = L } in
    let En = ended T in let c = clauses T 𝓛 𝓜.mem 𝓡.returns in let fn = inst_fn (args E) code.function in
    let row = RefOf (0 ∷ []) tt (plain (λ _. Sr E)) (λ _. tt) in
    let hs : Stays En.signature.params En.kept = (
      stay_dropped row yes,
      (
        stay_dropped (plain (λ _. RawPtr)) yes,
        (stay_dropped (plain (λ _. usize)) yes, tt),
      ),
    ) in
    proved 𝓛 En hs c 𝓜 𝓡 (
      Goes-dropped 𝓛 2 row yes (λ κs x f. refl),
      (
        Goes-dropped 𝓛 2 (plain (λ _. RawPtr)) yes (λ κs x f. refl),
        (Goes-dropped 𝓛 2 (plain (λ _. usize)) yes (λ κs x f. refl), tt),
      ),
    )
    (#self (args E)) fn (code.unfolded 𝓤 H 𝓜 𝓡 wired (T, tt))
    (λ κs. (shr_vals, (rawptr_vals, (uint_vals w64, tt))))
    (λ κs. (shr_Tells (named 0) κs.0 (Sr E), (rawptr_Tells, (uint_Tells w64, tt)))) (λ κs qs bounds a g are.
    let κ = κs.0 in let κ₁ = κs.1.0 in let q = qs.0 in let q₁ = qs.1.0 in
    let rb = a.0.ref_ptr.0 in
    let ro = a.0.ref_ptr.1 in
    let h = a.0.now in let p : Ptr = a.1.0 in let n : ℕ = a.1.1.0 in let fits : n < 2 ^ 64 = are.1.1.0.1 in
    let y : (walk_of 𝓛 En hs c).Ghost =
    ((κs, qs, bounds, a, (shr_vals a.0, (rawptr_vals p, (uint_vals w64 n, tt)))), g) in
    let Post : Val → SProp 𝓤 = (walk_of 𝓛 En hs c).post y in
    let Ok : Type 0 = (p ≡ slots_ptr h) × (n ≡ slots_len h) × (0 < n) × IsFull h in
    let s : ℕ = sz E in let xs = slots_items h in let fs = slots_filled h in
    qed 𝓛 (((‵ (flft κ q) ⊛ ‵ (flft κ₁ q₁) ⊛ ‵ ftrue) ⊛ ‵ (owns (types_at En.signature.params κs) a y.0.4)) ∷
    (raw (fact 𝓤 (κ₁ ⊑ T.lives)) ⊛ raw (fact 𝓤 Ok)) ∷ []) ∵
    move ! (1 ∷ []) $ split ! $ drop ! $ heard ! Ok (λ ok.
    let long : n ≡ length xs = ok.1 ∙ (slots_counts h).0 in
    let as_long : n ≡ length fs = ok.1 ∙ (slots_counts h).1 in let some_there : 0 < n = ok.2 in
    split ! $ split ! $ move ! (2 ∷ []) $ fsplit ! $ fsplit ! $ drop ! $
    use1 𝓛 (‵ (hidden_shr RawPtr κ (slots_ptr h) rb (ro + 0)) ⊛ ‵ (hidden_shr usize κ (slots_len h) rb (ro + 8)) ⊛ ‵
    (flt (slots_len h * s) (2 ^ 63)) ⊛ ‵ (slots_lent (R E) (slots_ptr h) xs fs κ)) (shown E 𝓛 κ h rb ro) $
    split3 ! $ move ! (2 ∷ []) $ split ! $ flt_l ! (λ fit.
    in_a_block ! (slots_ptr h) (λ r. slots_lent (R E) r xs fs κ)
    (none_at_null E 𝓛 κ xs fs 0 (omega arith) (omega arith) (ok.3 0 (omega arith) (omega arith))) (λ b o at_b.
    use1 𝓛 (‵ (elements_shared (R E) xs b o κ))
    (all_shown E 𝓛 κ b o xs fs (omega arith) (λ k l. ok.3 k (omega arith) (omega arith))) $ hide ! $ keep !
    (4 ∷ 5 ∷ 0 ∷ []) $
    enter ! 𝓣.C 𝓣.Λ fn (vptr rb ro ∷ ptr_val p ∷ vint w64 n ∷ []) Post $ alloc_all !
    (λ l. pass_all ! refl
    ((tt, tt), (((rawptr_Lawful 𝓛).typed p _ refl).0, ((tt, record { fits = fits }), tt))) $
    take_at ! 2 $ rewrite ! 0 (λ (r : Ptr). ‵ (fat full_share ty_ptr (l 2) 0 (ptr_val r)))
    (ok.0 ∙ at_b) refl $ give_at ! 2 $
    first ! $ blocks ! $ sets_last ! (agg ! (and_then ! (get ! refl) (and_then ! (get ! refl) (no_more !)))) refl
    (tt, (tt, (record { fits = fits }, tt))) $
    exec ! 𝓣.C 𝓣.Λ (env fn.locals l) (after 1 fn.body) (at_ret (env fn.locals l) Post) $ sets !
    (of_opd ! (get ! refl)) refl (tt, (tt, (record { fits = fits }, tt))) $
    returns ! (look_at ! 0 refl) $ free_all ! refl $
    suffices ! _ (ends_at 𝓛 En hs c y (slice_val (b, o) n) (record { ref_ptr = (b, o); now = xs })
    (tt, (tt, (tt, tt))) (tt, (tt, (tt, tt)))) $ says ! refl $
    join ! $ move ! (1 ∷ []) $ flt_i ! (length xs * s) (2 ^ 63)
    (subst (λ (k : ℕ). k * s < 2 ^ 63) (slots_counts h).0 fit) $ flt_i ! (length xs) (2 ^ 64)
    (omega arith) $ fjoin ! $
    feq_i ! (List Val) (slice_val (b, o) n ∷ []) (slice_val (b, o) (length xs) ∷ [])
    (ap (λ k. slice_val (b, o) k ∷ []) long) $ fjoin ! $ fjoin ! $
    nothing ! $ nothing ! $ fjoin ! $ nothing ! $ fjoin ! $ nothing ! $ fjoin ! $ keep ! (2 ∷ 0 ∷ 1 ∷ []) $ done !)))))
