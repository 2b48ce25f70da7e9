-- The allocator is asked for an array, and its room becomes empty places: a walk.
use mathlib.Core.Path.{◌≡◌, refl, sym, ap, subst, ◌∙◌}
use mathlib.Core.Bool.{Bool, true, false}
use Prim.Native.Nat.{ℕ, ◌*◌, ◌<◌, ◌^◌}
use native.Mathlib.Omega.{arith}
use mathlib.Core.List.{List, [], ◌∷◌}
use lib.Dec.{lit<}
use lib.ListN.{length, replicate, length-replicate}
use mir.Syntax.{Body, named, w64, ty_array}
use mir.MapTy.{inst_fn}
use mir.Val.{Val, vptr, vint, vstruct, vcons, vnil, WT}
use base.Logic.{SProp, ent, sep}
use base.Fml.{ftrue, froom, flft, Incl-trans}
use prog.Capped.{capped_fits}
use prog.Memory.{align, capped}
use prog.Wp.{Env, Wp, after_seq, at_return}
use contract.BorrowLft.{◌⊑◌}
use contract.Monad.{fact}
use contract.Running.{tables}
use types.Logic.{sem}
use types.Kit.{Post as After, any_q, ‵, raw, ◌⊛◌, some, given, later, at_ret, ◌$◌, ◌∵◌, !, qed, by, move, keep, use0}
use types.Kit.{use1, use2, use3, split, join, rewrite, fsplit, fjoin, feq_i, pick, learn, await, suffices, done}
use types.Match.{live, vrt, in_variant}
use types.Part.{whole, agg}
use types.Run.{stop, fld, lit, bin, size_word, align_word, of_opd, and_then, no_more, first, blocks, switches_on}
use types.Run.{exec, returns, enter}
use types.ByLocal.{alloc_all, pass_all, free_all, look_at, get, get_in, get_tag, sets, sets_last, is, env, lands_as}
use types.ByLocal.{lands_last}
use denote.Builtin.{usize, RefOf}
use denote.Exit.{yes}
use denote.Plain.{uint_vals, uint_Tells}
use denote.RattleType.{RattleType, owns}
use denote.RawPtr.{RawPtr, block_ptr}
use denote.Ref.{shr_vals, shr_Tells}
use denote.Signature.{plain, types_at}
use denote.Steps.{heard, nothing}
use denote.Struct.Tuple.{Tuple}
use denote.Triple.Call.{calls_at, calls_at_last}
use denote.Triple.Entry.{alive}
use denote.Triple.Table.{framed}
use denote.Triple.Walked.{says, Stays, stay_dropped, walk_of, ends_at, Goes-dropped}
use Rattle.std.specs.Prelude.{IfOk, Ok, Err}
use Rattle.std.proofs.raw_atomic.Walks.{proved}
use Rattle.core.specs.contracts.alloc.AllocError as AE
use Rattle.core.specs.contracts.result.Result as RS
use Rattle.core.specs.Mem.Slots.Ownership.{slots}
use Rattle.core.specs.Allocator.{FitsBlock}
use Rattle.core.proofs.alloc.Calls.{Al, Answer-typed, Takes, at_takes, Answered, Takes-goes, Takes-gives, answers}
use Rattle.core.proofs.mem.Param.{El, R, el_x, elτ}
use Rattle.core.proofs.slots.Bodies.{after, head, arm_body}
use Rattle.core.proofs.slots.Leases.{uncapped, block_ty, block_size, block_align, args, P}
use Rattle.core.proofs.slots.Opens.{Sr, row_val}
use Rattle.core.proofs.slots.Places.{sz, of_room}
use Rattle.core.proofs.slots.Slots.from_raw_parts.Met as from
use Rattle.desk_arena.proofs.Leases.{Lr, lease_val, lease_of, lease_made}
use Rattle.desk_arena.proofs.Made.{three_val, three_of, ok_of, err_of}
use Rattle.desk_arena.proofs.RawParts.{From, at_from, from_asks, from_gives, Made as IsMade, row_typed}
use Rattle.desk_arena.specs.contracts.places.reserved.{ended, clauses}
use Rattle.desk_arena.specs.contracts.places.reserved.Key.{name as #self}
use Rattle.desk_arena.proofs.places.reserved.Statement.{statement}
use Rattle.desk_arena.proofs.places.reserved.Code as code

pub reserved_spec : {M : Type 1} → statement M
reserved_spec 𝓤 𝓛 𝓜 𝓡 wired T A L LA g d dd met md =
    let H = 𝓛.H in let 𝓣 = tables 𝓤 H 𝓜 𝓡 𝓡.env in
    let E : El = record { row = T; laws = L } in
    let Z : Al = record { row = A; laws = LA; g = g; d = d; drops = dd } in
    let En = ended T A g d dd in
    let c = clauses T A g d dd 𝓛 𝓜.mem 𝓡.returns in let fn = inst_fn (args E Z) code.function in
    let handle = RefOf (0 ∷ []) tt (plain (λ _. P E Z)) (λ _. tt) in
    let hs : Stays En.signature.params En.kept =
    (stay_dropped handle yes, (stay_dropped (plain (λ _. usize)) yes, tt)) in
    let from_met = from.met 𝓤 𝓛 𝓜 𝓡 (code.calls-core::slots::Slots::from_raw_parts 𝓡.env wired) T L in
    let Three : RattleType = Tuple (RawPtr ∷ Sr E ∷ Lr E Z ∷ []) in
    let Out : RattleType = RS.the_row Three AE.the_row in
    proved 𝓛 En hs c 𝓜 𝓡 (
      Goes-dropped 𝓛 3 handle yes (λ κs x f. refl),
      (Goes-dropped 𝓛 3 (plain (λ _. usize)) yes (λ κs x f. refl), tt),
    )
    (#self (args E Z)) fn (code.unfolded 𝓤 H 𝓜 𝓡 wired (T, (A, tt)) d dd)
    (λ κs. (shr_vals, (uint_vals w64, tt))) (λ κs. (shr_Tells (named 0) κs.0 (P E Z), (uint_Tells w64, tt)))
    (λ κs qs bounds a gh are.
    let κ = κs.0 in let κ₁ = κs.1.0 in let κ₂ = κs.1.1.0 in let q = qs.0 in let q₁ = qs.1.0 in let q₂ = qs.1.1.0 in
    let rb = a.0.ref_ptr.0 in
    let ro = a.0.ref_ptr.1 in let h = a.0.now in let n : ℕ = a.1.0 in let fits : n < 2 ^ 64 = are.1.0.1 in
    let y : (walk_of 𝓛 En hs c).Ghost = ((κs, qs, bounds, a, (shr_vals a.0, (uint_vals w64 n, tt))), gh) in
    let Post : Val → SProp 𝓤 = (walk_of 𝓛 En hs c).post y in
    let Ok' : Type 0 = FitsBlock (R E) n × el_x E in let s : ℕ = sz E in let al : ℕ = capped (align (elτ E)) in
    let exits : (r : Out.Denot) (v : Val) →
    IfOk r (λ t. (t.1.ptr ≡ t.0) × (t.1.len ≡ n) × (t.2.at ≡ t.0) × (t.2.len ≡ n) × (t.2.alloc ≡ h))
    → ent 𝓤 (sep 𝓤 (sem 𝓛 (Out.own_val r (v ∷ []))) (alive 𝓛 En.signature κs qs)) (Post v) =
    λ r v said. qed 𝓛 (‵ (Out.own_val r (v ∷ [])) ∷ raw (alive 𝓛 En.signature κs qs) ∷ []) ∵
    suffices ! _ (ends_at 𝓛 En hs c y v r (tt, (tt, tt)) (tt, (tt, tt))) $ says ! said $ nothing ! $ nothing ! $
    fjoin ! $ nothing ! $ fjoin ! $ move ! (2 ∷ 0 ∷ 1 ∷ []) $ done ! in
    qed 𝓛 (((‵ (flft κ q) ⊛ ‵ (flft κ₁ q₁) ⊛ ‵ (flft κ₂ q₂) ⊛ ‵ ftrue) ⊛ ‵
    (owns (types_at En.signature.params κs) a y.0.4))
    ∷ (raw (fact 𝓤 (κ₁ ⊑ T.lives)) ⊛ raw (fact 𝓤 (κ₂ ⊑ A.lives)) ⊛ raw (fact 𝓤 Ok')) ∷ []) ∵
    move ! (1 ∷ []) $ split ! $ heard ! (κ₁ ⊑ T.lives)
    (λ in_T. split ! $ heard ! (κ₂ ⊑ A.lives) (λ in_A. heard ! Ok' (λ asked.
    let small : n * s < 2 ^ 63 = asked.0 in let bytes : n * s < 2 ^ 64 = omega arith in
    split ! $ split ! $ move ! (2 ∷ []) $ fsplit ! $ fsplit ! $ keep ! (1 ∷ 3 ∷ 4 ∷ []) $
    -- [the handle; its token; the other tokens]
    enter ! 𝓣.C 𝓣.Λ fn (vptr rb ro ∷ vint w64 n ∷ []) Post $ alloc_all !
    (λ l. pass_all ! refl ((tt, tt), ((tt, record { fits = fits }), tt)) $
    let Ev : Env 𝓤 H = env fn.locals l in let both : Body = head (after 2 fn.body) in
    let Then : After 𝓤 H =
    any_q (after_seq 𝓤 H (Wp 𝓤 H 𝓣.C 𝓣.Λ Ev (after 3 fn.body) (at_return 𝓤 H Ev Post)) (at_return 𝓤 H Ev Post))
    in
    let asks = at_takes Z 𝓛 𝓜.mem 𝓡.returns κ q (rb, ro) h (n * s) al (block_ty E n) in
    sets ! (is ! (bin ! (get ! refl) (size_word !)
    (record { fits = subst (λ (k : ℕ). k < 2 ^ 64) (sym (uncapped n s bytes)) bytes }))
    (ap (vint w64) (uncapped n s bytes))) refl (tt, record { fits = bytes }) $
    use2 𝓛 (raw ((Takes Z 𝓛 𝓜.mem 𝓡.returns).pre asks))
    (Takes-goes Z 𝓛 𝓜.mem 𝓡.returns κ q (rb, ro) h (Incl-trans bounds.0 in_A) (n * s) al (block_ty E n)
    (block_size E n bytes) (block_align E n) bytes (capped_fits (align (elτ E)))) $
    calls_at ! (framed 𝓤 H 𝓜 𝓣) (Takes Z 𝓛 𝓜.mem 𝓡.returns) (met.allocate dd) asks
    (and_then ! (get ! refl) (and_then ! (get ! refl) (and_then ! (align_word !) (no_more !)))) (λ v.
    use1 𝓛 (later (raw (Answered Z 𝓛 𝓜.mem 𝓡.returns h (block_ty E n) v) ⊛ ‵ (flft κ q)))
    (Takes-gives Z 𝓛 𝓜.mem 𝓡.returns κ q (rb, ro) h (n * s) al (block_ty E n) v) $ await ! tt $ split ! $
    answers Z ! 𝓜.mem 𝓡.returns h (block_ty E n) v
    (λ b o e.
    let xs : List (el_x E) = replicate n asked.1 in let fs : List Bool = replicate (length xs) false in
    let count : n ≡ length xs = sym (length-replicate n asked.1) in
    let count' : n ≡ length fs = count ∙ sym (length-replicate (length xs) false) in
    let words : WT (row_val b o n) = (tt, (record { fits = fits }, tt)) in
    let made : Val = three_val (vptr b o) (row_val b o n) lease_val in
    let all : WT (live 0 (vcons made vnil)) = (record { fits = lit< tt }, ((tt, (words, ((tt, tt), tt))), tt)) in
    -- [the room; the right to free it; the handle's token; the other tokens]
    lands_as ! e refl (Answer-typed true b o) $ first ! $ switches_on !
    (get_tag ! (vrt ! refl (fld ! refl (stop !))) (whole !)) $ exec ! 𝓣.C 𝓣.Λ Ev (arm_body 0 both) Then $
    sets ! (of_opd ! (get_in ! (vrt ! refl (fld ! refl (stop !))) (in_variant ! 0 0 refl refl (whole !)))) refl
    (tt, tt) $ sets ! (of_opd ! (get ! refl)) refl (tt, tt) $
    use1 𝓛 (‵ (froom (ty_array (elτ E) n) b o)) (𝓛.laws.raw-room (ty_array (elτ E) n) b o) $ rewrite ! 0
    (λ (k : ℕ). ‵ (froom (ty_array (elτ E) k) b o)) count refl $
    use1 𝓛 (‵ (slots (R E) (block_ptr b o) xs fs)) (of_room E 𝓛 b xs o) $ move ! (3 ∷ []) $ split ! $ move !
    (2 ∷ 0 ∷ []) $ first ! $ blocks ! $
    use2 𝓛 (raw ((From E 𝓛 𝓜.mem 𝓡.returns κ₁ q₁ b o).pre (at_from E 𝓛 𝓜.mem 𝓡.returns κ₁ q₁ b o n xs fs)))
    (from_asks E 𝓛 𝓜.mem 𝓡.returns κ₁ q₁ b o n xs fs in_T count count' fits small) $
    calls_at_last ! (framed 𝓤 H 𝓜 𝓣) (From E 𝓛 𝓜.mem 𝓡.returns κ₁ q₁ b o) from_met
    (at_from E 𝓛 𝓜.mem 𝓡.returns κ₁ q₁ b o n xs fs)
    (and_then ! (get ! refl) (and_then ! (get ! refl) (no_more !))) (λ u.
    use1 𝓛 (later (some (λ (r : (Sr E).Denot). given
    ((u ≡ row_val b o n) × IsMade E 𝓛 𝓜.mem 𝓡.returns κ₁ q₁ b o n xs fs r)
    (‵ ((Sr E).own_val r (row_val b o n ∷ [])) ⊛ ‵ (flft κ₁ q₁)))))
    (from_gives E 𝓛 𝓜.mem 𝓡.returns κ₁ q₁ b o n xs fs u) $ await ! tt $ pick !
    (λ r. learn ! (λ got. split ! $ let are_made = got.1 in
    -- [the places; T's token; A's token; the right; the handle's token]
    lands_last ! refl (row_typed E u b o n got.0 fits) $ exec ! 𝓣.C 𝓣.Λ Ev (after 3 (arm_body 0 both)) Then $
    sets ! (is ! (of_opd ! (get ! refl)) got.0) refl (tt, words) $ sets ! (of_opd ! (get ! refl)) refl (tt, words) $
    sets ! (agg ! (no_more !)) refl (tt, tt) $ sets ! (agg ! (and_then ! (get ! refl) (no_more !))) refl
    (tt, (tt, tt)) $
    sets ! (agg ! (and_then ! (get ! refl) (and_then ! (get ! refl) (and_then ! (get ! refl) (no_more !))))) refl
    (tt, (tt, (words, ((tt, tt), tt)))) $
    sets_last ! (agg ! (and_then ! (lit ! tt) (and_then ! (get ! refl) (no_more !)))) refl (tt, all) $
    exec ! 𝓣.C 𝓣.Λ Ev (after 3 fn.body) (at_ret Ev Post) $ sets ! (of_opd ! (get ! refl)) refl (tt, all) $
    move ! (3 ∷ []) $ lease_made E Z ! h b o n $ move ! (1 ∷ 0 ∷ []) $ feq_i ! (List Val) (vptr b o ∷ [])
    (vptr b o ∷ []) refl $
    use3 𝓛 (‵ (Three.own_val (block_ptr b o, r, lease_of E Z h b o n) (made ∷ [])))
    (three_of 𝓛 RawPtr (Sr E) (Lr E Z) (block_ptr b o) r (lease_of E Z h b o n) (vptr b o)
    (row_val b o n) lease_val) $
    use1 𝓛 (‵ (Out.own_val (Ok (block_ptr b o, r, lease_of E Z h b o n)) (live 0 (vcons made vnil) ∷ [])))
    (ok_of 𝓛 Three (block_ptr b o, r, lease_of E Z h b o n) made) $
    returns ! (look_at ! 0 refl) $ free_all ! refl $ move ! (1 ∷ 2 ∷ []) $ join ! $ move !
    (2 ∷ 0 ∷ []) $ join ! $ move ! (1 ∷ 0 ∷ []) $
    by ! (exits (Ok (block_ptr b o, r, lease_of E Z h b o n)) (live 0 (vcons made vnil))
    (are_made.0, are_made.1, refl, refl, refl))))))
    (λ e.
    let none : Val = live 1 (vcons (vstruct vnil) vnil) in
    lands_as ! e refl (Answer-typed false 0 0) $ first ! $ switches_on !
    (get_tag ! (vrt ! refl (fld ! refl (stop !))) (whole !)) $ exec ! 𝓣.C 𝓣.Λ Ev (arm_body 1 both) Then $
    sets ! (of_opd ! (get_in ! (vrt ! refl (fld ! refl (stop !))) (in_variant ! 1 0 refl refl (whole !)))) refl
    (tt, tt) $
    sets_last ! (agg ! (and_then ! (lit ! tt) (and_then ! (get ! refl) (no_more !)))) refl
    (tt, (record { fits = lit< tt }, (tt, tt))) $
    exec ! 𝓣.C 𝓣.Λ Ev (after 3 fn.body) (at_ret Ev Post) $ sets ! (of_opd ! (get ! refl)) refl
    (tt, (record { fits = lit< tt }, (tt, tt))) $
    use0 𝓛 (‵ (Out.own_val (Err (record {})) (none ∷ []))) (err_of 𝓛 Three) $
    returns ! (look_at ! 0 refl) $ free_all ! refl $ move ! (1 ∷ 2 ∷ []) $ join ! $ move ! (1 ∷ 0 ∷ []) $ by !
    (exits (Err (record {})) none tt))))))))
