-- The items of one sender, where lists are put together.
use Rattle.std.proofs.Common.{◌≡◌, ◌≢◌, ◌==◌, ℕ, Bool, true, false, List, [], ◌∷◌, ◌++◌, sym, refl, ap, ◌∙◌}
use Rattle.std.proofs.Common.{append_assoc, append-nil, subst, length, eq-eqb, ne_eqb, Result, OnOk}
use Rattle.std.proofs.lemmas.Result.{on_ok_weaker}
use Rattle.desk_mailbox.specs.declared.rule.SentItem.{SentItem}
use Rattle.desk_mailbox.specs.declared.rule.PassView.{PassView}
use Rattle.desk_mailbox.specs.Rule.{prepend_if, items_of, IsFirstOf, after_take, Balances}

module _ {T : Type 0} where
  prepended-append : (b : Bool) (x : T) (xs ys : List T) → prepend_if b x xs ++ ys ≡ prepend_if b x (xs ++ ys)
  prepended-append true x xs ys = refl
  prepended-append false x xs ys = refl

  pub items_of-append : (number : ℕ) (xs ys : List (SentItem T)) →
      items_of number (xs ++ ys) ≡ items_of number xs ++ items_of number ys
  items_of-append number [] ys = refl
  items_of-append number (s ∷ sent) ys =
      ap (prepend_if (s.sender == number) s.item) (items_of-append number sent ys)
      ∙ sym (prepended-append (s.sender == number) s.item (items_of number sent) (items_of number ys))

  of_its_sender : (number : ℕ) (s : SentItem T) → s.sender ≡ number → items_of number (s ∷ []) ≡ s.item ∷ []
  of_its_sender number s e = ap (λ b. prepend_if b s.item []) (eq-eqb s.sender number e)

  of_another : (number : ℕ) (s : SentItem T) → s.sender ≢ number → items_of number (s ∷ []) ≡ []
  of_another number s e = ap (λ b. prepend_if b s.item []) (ne_eqb s.sender number e)

  with_nothing : (xs : List T) → xs ++ [] ≡ xs
  with_nothing [] = refl
  with_nothing (x ∷ xs) = ap (λ l. x ∷ l) (with_nothing xs)

  -- one item more at the back of what the mailbox holds
  one_more : (number : ℕ) (taken held : List (SentItem T)) (s : SentItem T) →
      items_of number (taken ++ (held ++ s ∷ [])) ≡ items_of number (taken ++ held) ++ items_of number (s ∷ [])
  one_more number taken held s =
      ap (items_of number) (sym (append_assoc taken held (s ∷ [])))
      ∙ items_of-append number (taken ++ held) (s ∷ [])

  pub one_more_of_its_sender : (number : ℕ) (taken held : List (SentItem T)) (s : SentItem T) (put : List T) →
      s.sender ≡ number → items_of number (taken ++ held) ≡ put →
      items_of number (taken ++ (held ++ s ∷ [])) ≡ put ++ s.item ∷ []
  one_more_of_its_sender number taken held s put e was =
      one_more number taken held s
      ∙ ap (λ l. l ++ items_of number (s ∷ [])) was
      ∙ ap (λ l. put ++ l) (of_its_sender number s e)

  pub one_more_of_another : (number : ℕ) (taken held : List (SentItem T)) (s : SentItem T) (put : List T) →
      s.sender ≢ number → items_of number (taken ++ held) ≡ put →
      items_of number (taken ++ (held ++ s ∷ [])) ≡ put
  one_more_of_another number taken held s put e was =
      one_more number taken held s
      ∙ ap (λ l. l ++ items_of number (s ∷ [])) was
      ∙ ap (λ l. put ++ l) (of_another number s e)
      ∙ with_nothing put

  -- where what was taken and what is held of a sender is what it put, what was taken is what it put at first
  pub taken_first : (v : PassView T) (held taken : List (SentItem T)) (number : ℕ) (put : List T) →
      v.number ≡ number → v.taken ≡ taken → v.put ≡ put → items_of v.number (v.taken ++ held) ≡ v.put →
      IsFirstOf (items_of number taken) put
  taken_first v held taken number put own all same e = (
    items_of number held,
    sym same
        ∙ sym e
        ∙ ap (λ l. items_of v.number (l ++ held)) all
        ∙ ap (λ k. items_of k (taken ++ held)) own
        ∙ items_of-append number taken held,
  )

  -- the view of a pass that has taken some items more
  abbrev pub with_taken : PassView T → List (SentItem T) → PassView T
  with_taken v more = record v { taken = v.taken ++ more }

  -- one more was taken
  pub taken_more : (v w x : PassView T) (more : List (SentItem T)) (s : SentItem T) → w ≡ with_taken v more →
      x ≡ after_take w s → x ≡ with_taken v (more ++ s ∷ [])
  taken_more v w x more s was is =
      is ∙ ap (λ u. after_take u s) was ∙ ap (λ l. record v { taken = l }) (append_assoc v.taken more (s ∷ []))

  -- once the mailbox is empty, what a pass that sends as well put is what was taken of it
  pub all_taken : (v w x : PassView T) (more held : List (SentItem T)) → v.sends ≡ true → v.takes ≡ true →
      w ≡ with_taken v more → x ≡ w → length held ≡ 0 → Balances w held → items_of v.number x.taken ≡ v.put
  all_taken v w x more [] sends takes was is none balance =
      ap (λ u. items_of v.number u.taken) (is ∙ was)
      ∙ ap (items_of v.number) (sym (append-nil (v.taken ++ more)))
      ∙ subst (λ u. Balances u []) was balance sends takes
  all_taken v w x more (s ∷ held) sends takes was is none balance = absurd (cc)

  -- what was taken is what had been taken at the end, and then what is left
  pub taken_with_left : (ended left more was now taken : List (SentItem T)) → was ≡ ended ++ left →
      taken ≡ was ++ more → now ≡ left ++ more → taken ≡ ended ++ now
  taken_with_left ended left more was now taken had is left_is =
      is ∙ ap (λ l. l ++ more) had ∙ append_assoc ended left more ∙ ap (λ l. ended ++ l) (sym left_is)

  -- so is all that a sender put, where it was taken
  pub put_is_left : {A E : Type 0} (result : Result A E) (v : PassView T) (taken all : List (SentItem T)) (number : ℕ)
      (put : List T) → v.number ≡ number → v.put ≡ put → taken ≡ all → OnOk result (items_of v.number taken ≡ v.put) →
      OnOk result (items_of number all ≡ put)
  put_is_left result v taken all number put own same is =
      on_ok_weaker result (λ e. ap (λ k. items_of k all) (sym own) ∙ ap (items_of v.number) (sym is) ∙ e ∙ same)
