-- A tuple of three and a `Result` are made of their values.
use mathlib.Core.Path.{refl}
use mathlib.Core.List.{List, [], ◌∷◌}
use seplogic.Ra.Ura.{Ura}
use mir.Val.{Val, vstruct, vcons, vnil, of_list}
use base.Logic.{ent, sep, emp}
use types.Logic.{Logic, sem}
use types.Kit.{‵, ◌$◌, ◌∵◌, !, qed, move, fjoin, fpack, feq_i, done}
use types.Match.{live}
use denote.Enum.Declared.{shape}
use denote.Enum.Enum.{form_of, in_a_row}
use denote.Enum.Row.{tagged_with}
use denote.Laws.{Is}
use denote.RattleType.{RattleType, Valss, owns}
use denote.Steps.{nothing, owned}
use denote.Struct.Declared as Declared
use denote.Struct.Struct.{Struct, Struct-Makes, within}
use denote.Struct.Tuple.{Tuple, tuple_type}
use Rattle.core.specs.contracts.alloc.AllocError as AE
use Rattle.core.specs.contracts.result.Result as RS
use Rattle.core.specs.declared.result.Result.TheVariants.{Ok, Err}

abbrev pub three_val : Val → Val → Val → Val
three_val u v w = vstruct (vcons u (vcons v (vcons w vnil)))

pub three_of : {M : Type 1} {𝓤 : Ura M} (𝓛 : Logic 𝓤) (R S T : RattleType) (x : R.Denot) (y : S.Denot) (z : T.Denot)
    (u v w : Val)
    → ent 𝓤 (sep 𝓤 (sem 𝓛 (R.own_val x (u ∷ [])))
    (sep 𝓤 (sem 𝓛 (S.own_val y (v ∷ []))) (sem 𝓛 (T.own_val z (w ∷ [])))))
    (sem 𝓛 ((Tuple (R ∷ S ∷ T ∷ [])).own_val (x, y, z) (three_val u v w ∷ [])))
three_of 𝓛 R S T x y z u v w =
    qed 𝓛 (‵ (R.own_val x (u ∷ [])) ∷ ‵ (S.own_val y (v ∷ [])) ∷ ‵ (T.own_val z (w ∷ [])) ∷ []) ∵ nothing ! $ move !
    (3 ∷ 0 ∷ []) $ fjoin ! $ move ! (2 ∷ 0 ∷ []) $ fjoin ! $ move ! (1 ∷ 0 ∷ []) $ fjoin ! $
    feq_i ! (List Val) (three_val u v w ∷ []) (three_val u v w ∷ []) refl $ fjoin ! $
    fpack ! (Valss (R ∷ S ∷ T ∷ []))
    (within (Declared.shape (tuple_type (R ∷ S ∷ T ∷ []))) (x, (y, (z, tt))) (three_val u v w ∷ []))
    (u ∷ [], (v ∷ [], (w ∷ [], tt))) $ done !

module _ {M : Type 1} {𝓤 : Ura M} (𝓛 : Logic 𝓤) (X : RattleType) where
  pub ok_of : (x : X.Denot) (v : Val) →
      ent 𝓤 (sem 𝓛 (X.own_val x (v ∷ [])))
      (sem 𝓛 ((RS.the_row X AE.the_row).own_val (Ok x) (live 0 (of_list (v ∷ [])) ∷ [])))
  ok_of x v =
      qed 𝓛 (‵ (X.own_val x (v ∷ [])) ∷ []) ∵ nothing ! $ move ! (1 ∷ 0 ∷ []) $ fjoin ! $ feq_i ! (List Val)
      (v ∷ []) (v ∷ []) refl $ fjoin ! $
      fpack ! (Valss (X ∷ [])) (in_a_row (X ∷ []) (owns (X ∷ []) (x, tt)) (v ∷ [])) (v ∷ [], tt) $
      feq_i ! (List Val) (live 0 (of_list (v ∷ [])) ∷ []) (live 0 (of_list (v ∷ [])) ∷ []) refl $ fjoin ! $
      fpack ! (List Val) (tagged_with (form_of (shape (RS.the_type X AE.the_row)))
      (form_of (shape (RS.the_type X AE.the_row))).payload ((RS.the_type X AE.the_row).to (Ok x))
      (live 0 (of_list (v ∷ [])) ∷ [])) (v ∷ []) $ done !

  pub err_of : ent 𝓤 (emp 𝓤)
      (sem 𝓛 ((RS.the_row X AE.the_row).own_val (Err (record {})) (live 1 (of_list (vstruct vnil ∷ [])) ∷ [])))
  err_of =
      let v : Val = vstruct vnil in
      qed 𝓛 [] ∵ nothing ! $ owned ! (Struct (Declared.shape AE.the_type))
      (Is (Struct (Declared.shape AE.the_type))) (Struct-Makes 𝓛 (Declared.shape AE.the_type) tt) tt (v ∷ [])
      (tt, (refl, tt)) $ fjoin ! $
      feq_i ! (List Val) (v ∷ []) (v ∷ []) refl $ fjoin ! $
      fpack ! (Valss (AE.the_row ∷ []))
      (in_a_row (AE.the_row ∷ []) (owns (AE.the_row ∷ []) (record {}, tt)) (v ∷ [])) (v ∷ [], tt) $
      feq_i ! (List Val) (live 1 (of_list (v ∷ [])) ∷ []) (live 1 (of_list (v ∷ [])) ∷ []) refl $ fjoin ! $
      fpack ! (List Val) (tagged_with (form_of (shape (RS.the_type X AE.the_row)))
      (form_of (shape (RS.the_type X AE.the_row))).payload ((RS.the_type X AE.the_row).to (Err (record {})))
      (live 1 (of_list (v ∷ [])) ∷ [])) (v ∷ []) $ done !
