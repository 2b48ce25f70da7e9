-- The places become room again, and the block goes back to the allocator with the right to free it: a walk.
use mathlib.Core.Path.{◌≡◌, refl, sym, ap, subst, ◌∙◌}
use Prim.Native.Nat.{ℕ, ◌*◌, ◌<◌, ◌^◌}
use native.Mathlib.Omega.{arith}
use mathlib.Core.List.{List, [], ◌∷◌, ◌++◌}
use lib.Dec.{T}
use lib.ListN.{length}
use mir.Syntax.{w64, ty_unit, ty_array}
use mir.MapTy.{inst_fn}
use mir.Val.{Val, vptr, vint, vunit, has_ty, WT}
use base.Logic.{SProp, ent, id⊢}
use base.Fml.{ftrue, froom, flft, Incl-trans}
use prog.Capped.{capped_fits}
use prog.Memory.{align, capped}
use prog.Wp.{Env, WpFn}
use contract.BorrowLft.{◌⊑◌}
use contract.Monad.{fact}
use contract.Running.{tables}
use types.Kit.{‵, raw, ◌⊛◌, given, later, at_ret, ◌$◌, ◌∵◌, !, qed, move, keep, use1, use2, use3, split, join}
use types.Kit.{rewrite, fsplit, fsplit3, fjoin, fjoin3, feq_i, feq_l, learn, await, suffices, done}
use types.Part.{whole, sub}
use types.Run.{stop, fld, bin, size_word, align_word, unit_lit, of_opd, and_then, no_more, first, blocks, exec}
use types.Run.{returns, enter}
use types.ByLocal.{alloc_all, pass_all, free_all, look_at, get, get_in, sets, is, env, lands_last}
use denote.Builtin.{RefOf}
use denote.Exit.{yes, no}
use denote.RattleType.{owns}
use denote.RawPtr.{Ptr, block_ptr}
use denote.Signature.{plain, types_at}
use denote.Steps.{heard, nothing}
use denote.Triple.Call.{calls_at_last}
use denote.Triple.Table.{framed}
use denote.Triple.Walked.{Stays, stay_dropped, walk_of, ends_at, Goes-dropped}
use Rattle.std.proofs.raw_atomic.Walks.{proved_at}
use Rattle.core.specs.Mem.Slots.{slots_items, slots_filled, slots_len, slots_ptr, slots_counts}
use Rattle.core.specs.Mem.Slots.Ownership.{slots}
use Rattle.core.proofs.alloc.Calls.{Al, token, Gives, at_gives, Gives-goes, Gives-Gives}
use Rattle.core.proofs.mem.Param.{El, R, elτ}
use Rattle.core.proofs.slots.Bodies.{after}
use Rattle.core.proofs.slots.Leases.{uncapped, block_ty, block_size, block_align, args, P}
use Rattle.core.proofs.slots.Opens.{Sr, row_val}
use Rattle.core.proofs.slots.Places.{sz, to_room}
use Rattle.core.proofs.slots.Slots.into_raw_parts.Met as into
use Rattle.desk_arena.proofs.Leases.{Lr, lease_val, lease_reported}
use Rattle.desk_arena.proofs.RawParts.{Into, at_into, into_asks, into_gives, row_seen, parts_typed, words_good}
use Rattle.desk_arena.specs.contracts.places.released.{ended, clauses}
use Rattle.desk_arena.specs.contracts.places.released.Key.{name as #self}
use Rattle.desk_arena.proofs.places.released.Statement.{statement}
use Rattle.desk_arena.proofs.places.released.Code as code

pub released_spec : {M : Type 1} → statement M
released_spec 𝓤 𝓛 𝓜 𝓡 wired T' A L LA g d dd met md =
    let H = 𝓛.H in let 𝓣 = tables 𝓤 H 𝓜 𝓡 𝓡.env in
    let E : El = record { row = T'; laws = L } in
    let Z : Al = record { row = A; laws = LA; g = g; d = d; drops = dd } in
    let En = ended T' A g d dd in
    let c = clauses T' A g d dd 𝓛 𝓜.mem 𝓡.returns in let fn = inst_fn (args E Z) code.function in
    let handle = RefOf (0 ∷ []) tt (plain (λ _. P E Z)) (λ _. tt) in
    let hs : Stays En.signature.params En.kept = (
      stay_dropped handle yes,
      (stay_dropped (plain (λ _. Sr E)) no, (stay_dropped (plain (λ _. Lr E Z)) no, tt)),
    ) in
    let into_met = into.met 𝓤 𝓛 𝓜 𝓡 (code.calls-core::slots::Slots::into_raw_parts 𝓡.env wired) T' L in
    proved_at 𝓛 En hs c 𝓜 𝓡 (
      Goes-dropped 𝓛 3 handle yes (λ κs x f. refl),
      (
        Goes-dropped 𝓛 3 (plain (λ _. Sr E)) no (λ κs x f. refl),
        (Goes-dropped 𝓛 3 (plain (λ _. Lr E Z)) no (λ κs x f. refl), tt),
      ),
    )
    (#self (args E Z)) fn (code.unfolded 𝓤 H 𝓜 𝓡 wired (T', (A, tt)) d dd) (λ z are.
    let κ = z.0.0.0 in
    let κ₁ = z.0.0.1.0 in let κ₂ = z.0.0.1.1.0 in let q = z.0.1.0 in let q₁ = z.0.1.1.0 in let q₂ = z.0.1.1.1.0 in
    let rb = z.0.3.0.ref_ptr.0 in
    let ro = z.0.3.0.ref_ptr.1 in
    let a = z.0.3.0.now in let h = z.0.3.1.0 in let k = z.0.3.1.1.0 in let vss = z.0.4 in
    let n : ℕ = slots_len h in
    let xs = slots_items h in let fs = slots_filled h in let s : ℕ = sz E in let al : ℕ = capped (align (elτ E)) in
    let Post : Val → SProp 𝓤 = (walk_of 𝓛 En hs c).post z in
    let Run : List Val → SProp 𝓤 = λ ws. WpFn 𝓤 H 𝓣.C 𝓣.Λ fn ws Post in
    let Ok : Type 0 = (k.at ≡ slots_ptr h) × (k.len ≡ n) × (k.alloc ≡ a) in
    qed 𝓛 (((‵ (flft κ q) ⊛ ‵ (flft κ₁ q₁) ⊛ ‵ (flft κ₂ q₂) ⊛ ‵ ftrue) ⊛ ‵
    (owns (types_at En.signature.params z.0.0) z.0.3 vss))
    ∷ (raw (fact 𝓤 (κ₁ ⊑ T'.lives)) ⊛ raw (fact 𝓤 (κ₂ ⊑ A.lives)) ⊛ raw (fact 𝓤 Ok)) ∷ []) ∵
    move ! (1 ∷ []) $ split ! $ heard ! (κ₁ ⊑ T'.lives)
    (λ in_T. split ! $ heard ! (κ₂ ⊑ A.lives) (λ in_A. heard ! Ok (λ ok.
    split ! $ split ! $ move ! (2 ∷ []) $ fsplit3 ! $ fsplit ! $ feq_l !
    (λ e₀. move ! (1 ∷ []) $ row_seen E ! h vss.1.0 (λ b o at e₁ fits fit.
    let bytes : n * s < 2 ^ 64 = omega arith in let e₂ = lease_reported E Z vss.1.1.0 are.1.1.0.0 in
    move ! (2 ∷ []) $ fsplit ! $ fsplit ! $ keep ! (1 ∷ 3 ∷ 4 ∷ 5 ∷ 6 ∷ []) $
    rewrite ! 0 (λ (u : A.Denot × ℕ × Ptr). ‵ (token Z u.0 (block_ty E u.1) u.2))
    (λ i. (ok.2 i, ok.1 i, (ok.0 ∙ at) i)) refl $
    let us : List Val = vptr rb ro ∷ row_val b o n ∷ lease_val ∷ [] in let words = words_good b o n fits in
    suffices ! (Run us) (subst (λ (ws : List Val). ent 𝓤 (Run us) (Run ws))
    (sym (λ j. e₀ j ++ (e₁ j ++ (e₂ j ++ [])))) (id⊢ 𝓤 (Run us))) $
    -- [the right to free it; the row; the handle; its token; the other tokens]
    enter ! 𝓣.C 𝓣.Λ fn us Post $ alloc_all !
    (λ l. pass_all ! refl ((tt, tt), ((tt, words), ((tt, (tt, tt)), tt))) $ let Ev : Env 𝓤 H = env fn.locals l in
    first ! $ blocks ! $ sets ! (of_opd ! (get ! refl)) refl (tt, words) $ move ! (4 ∷ []) $ split ! $ move !
    (3 ∷ 0 ∷ []) $
    use2 𝓛 (raw ((Into E 𝓛 𝓜.mem 𝓡.returns κ₁ q₁ b o).pre (at_into E 𝓛 𝓜.mem 𝓡.returns κ₁ q₁ b o h)))
    (into_asks E 𝓛 𝓜.mem 𝓡.returns κ₁ q₁ b o h in_T) $
    calls_at_last ! (framed 𝓤 H 𝓜 𝓣) (Into E 𝓛 𝓜.mem 𝓡.returns κ₁ q₁ b o) into_met
    (at_into E 𝓛 𝓜.mem 𝓡.returns κ₁ q₁ b o h) (and_then ! (get ! refl) (no_more !)) (λ v.
    use1 𝓛 (later (given (v ≡ row_val b o n) (‵ (slots (R E) (block_ptr b o) xs fs) ⊛ ‵ (flft κ₁ q₁))))
    (into_gives E 𝓛 𝓜.mem 𝓡.returns κ₁ q₁ b o h v at) $ await ! tt $ learn ! (λ ev. split ! $
    -- [the places; T's token; A's token; the right to free it; the handle; its token]
    lands_last ! refl (parts_typed v b o n ev fits) $ exec ! 𝓣.C 𝓣.Λ Ev (after 1 fn.body) (at_ret Ev Post) $
    sets ! (is ! (of_opd ! (get ! refl)) ev) refl (tt, words) $ sets !
    (of_opd ! (get_in ! (fld ! refl (stop !)) (sub ! 0 refl (whole !)))) refl (tt, tt) $
    sets ! (of_opd ! (get_in ! (fld ! refl (stop !)) (sub ! 1 refl (whole !)))) refl
    (tt, record { fits = fits }) $ first ! $ blocks ! $ sets ! (of_opd ! (get ! refl)) refl (tt, tt) $
    sets ! (is ! (bin ! (get ! refl) (size_word !)
    (record { fits = subst (λ (i : ℕ). i < 2 ^ 64) (sym (uncapped n s bytes)) bytes }))
    (ap (vint w64) (uncapped n s bytes))) refl (tt, record { fits = bytes }) $
    use1 𝓛 (‵ (froom (ty_array (elτ E) (length xs)) b o))
    (to_room E 𝓛 b xs fs o (sym (slots_counts h).1 ∙ (slots_counts h).0)) $
    rewrite ! 0 (λ (i : ℕ). ‵ (froom (ty_array (elτ E) i) b o)) (sym (slots_counts h).0) refl $ use1 𝓛
    (‵ (froom (block_ty E n) b o)) (𝓛.laws.room-raw (ty_array (elτ E) n) b o) $
    move ! (4 ∷ 5 ∷ []) $ join ! $ move ! (1 ∷ 4 ∷ 0 ∷ []) $
    let y = at_gives Z 𝓛 𝓜.mem 𝓡.returns κ q (rb, ro) a b o (n * s) al (block_ty E n) in
    use3 𝓛 (raw ((Gives Z 𝓛 𝓜.mem 𝓡.returns).pre y))
    (Gives-goes Z 𝓛 𝓜.mem 𝓡.returns κ q (rb, ro) a (Incl-trans z.0.2.0 in_A) b o (n * s) al (block_ty E n)
    (block_size E n bytes) (block_align E n) bytes (capped_fits (align (elτ E)))) $
    calls_at_last ! (framed 𝓤 H 𝓜 𝓣) (Gives Z 𝓛 𝓜.mem 𝓡.returns) (met.deallocate dd) y
    (and_then ! (get ! refl)
    (and_then ! (get ! refl) (and_then ! (get ! refl) (and_then ! (align_word !) (no_more !))))) (λ v'.
    use1 𝓛 (later (given (v' ≡ vunit) (‵ (flft κ q))))
    (Gives-Gives Z 𝓛 𝓜.mem 𝓡.returns κ q (rb, ro) a b o (n * s) al (block_ty E n) v') $ await ! tt $ learn !
    (λ e.
    lands_last ! refl (subst (λ (u : Val). T (has_ty ty_unit u) × WT u) (sym e) (tt, tt)) $ exec ! 𝓣.C 𝓣.Λ Ev
    (after 5 fn.body) (at_ret Ev Post) $
    sets ! (of_opd ! (unit_lit !)) refl (tt, tt) $ returns ! (look_at ! 0 refl) $ free_all ! refl $
    suffices ! _ (ends_at 𝓛 En hs c z vunit tt (tt, (tt, (tt, tt))) (tt, (tt, (tt, tt)))) $
    move ! (1 ∷ 2 ∷ []) $ join ! $ move ! (1 ∷ 0 ∷ []) $ join ! $ feq_i ! (List Val) (vunit ∷ [])
    (vunit ∷ []) refl $ nothing ! $ nothing ! $ fjoin ! $ nothing ! $ nothing ! $ fjoin3 ! $ join ! $
    move ! (1 ∷ 0 ∷ []) $ join ! $ nothing ! $ keep ! (1 ∷ 0 ∷ []) $ done !)))))))))))
