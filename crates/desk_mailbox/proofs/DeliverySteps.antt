-- Each step keeps the rule of a mailbox.
use Rattle.std.proofs.Common.{◌≡◌, ◌≢◌, ℕ, ◌+◌, ◌<◌, true, false, true≢false, List, []}
use Rattle.std.proofs.Common.{◌∷◌, ◌++◌, length, set, sym, refl, ap, ◌∙◌, ⊎_elim, append_assoc, arith}
use mathlib.Core.Option.{some, some-ne-none}
use lib.ListN.{get_elem?}
use Rattle.crossbeam_channel.specs.Fifo.{Pushes, Pops, Forks, Merges, Learns}
use Rattle.atomic_table.proofs.Lists.{at_set}
use Rattle.desk_mailbox.specs.declared.rule.SentItem.{SentItem}
use Rattle.desk_mailbox.specs.declared.rule.PassView.{PassView}
use Rattle.desk_mailbox.specs.Rule.{items_of, IsSenderView, IsTakerView, Delivers, nobody, first_view, after_put}
use Rattle.desk_mailbox.specs.Rule.{after_take, with_one_sender_more, new_sender, with_sender, without_sender}
use Rattle.desk_mailbox.specs.Rule.{sender_alone, Balances}
use Rattle.desk_mailbox.proofs.ItemsOf.{one_more_of_its_sender, one_more_of_another}
use Rattle.desk_mailbox.proofs.Views.{with_owner, owner_here, owner_else, at_back, EachView, EachView-set}
use Rattle.desk_mailbox.proofs.Views.{EachView-push}

never : {A : Type 0} → false ≡ true → A
never p = absurd (true≢false (sym p))

module _ {T : Type 0} where
  abbrev Fits : (ℕ → ℕ) → ℕ → ℕ → List (SentItem T) → List (SentItem T) → ℕ → PassView T → Type 0
  Fits owner taker senders taken all pass v =
      IsSenderView owner senders all pass v × IsTakerView taker senders taken pass v

  nobody_fits : (owner : ℕ → ℕ) (taker senders : ℕ) (taken all : List (SentItem T)) (pass : ℕ) →
      Fits owner taker senders taken all pass nobody
  nobody_fits owner taker senders taken all pass = ((λ p. never p), λ p. never p)

  -- an empty mailbox with its taker
  pub Delivers-empty : Delivers {T = T} [] (first_view ∷ [])
  Delivers-empty = (
    (λ _. 0),
    0,
    0,
    [],
    (λ k _. refl),
    EachView-set (Fits (λ _. 0) 0 0 [] []) (first_view ∷ []) 0 first_view ((λ p. never p), λ p. (refl, refl, refl))
        (λ j u other e. ⊎_elim
        (λ (x : get_elem? {A = PassView T} [] j ≡ some u). absurd (some-ne-none u (sym x)))
        (λ (x : (first_view ≡ u) × (j ≡ 0)). absurd (other x.1))
        (at_back [] first_view u j e)),
  )

  pub Delivers-put : (n pass : ℕ) (v : PassView T) (s : SentItem T) → v.sends ≡ true → s.sender ≡ v.number →
      Pushes Delivers n pass v s (λ w. w ≡ after_put v s)
  Delivers-put n pass v s may from held views _ h at =
      let owner = h.0 in
      let taker = h.1 in
      let senders = h.2 in
      let taken = h.3 in
      let was = h.5 pass v at in
      let own = was.0 may in
      let all = taken ++ (held ++ s ∷ []) in (
        after_put v s,
        (
          owner,
          taker,
          senders,
          taken,
          (λ k le.
              let lt : v.number < senders = own.1 in
              let ne : s.sender ≢ k = λ e. absurd (omega arith) in
              one_more_of_another k taken held s [] ne (h.4 k le)),
          EachView-set (Fits owner taker senders taken all) views pass (after_put v s)
              ((λ _. (own.0, own.1, one_more_of_its_sender v.number taken held s v.put from own.2)), was.1)
              (λ j u other e. (
                (λ sends.
                    let t = (h.5 j u e).0 sends in (
                      t.0,
                      t.1,
                      one_more_of_another u.number taken held s u.put
                          (λ same. other (sym t.0 ∙ ap owner (sym same ∙ from) ∙ own.0)) t.2,
                    )),
                (h.5 j u e).1,
              )),
        ),
        refl,
      )

  pub Delivers-take : (pass : ℕ) (v : PassView T) → v.takes ≡ true → Pops Delivers pass v (λ s w. w ≡ after_take v s)
  Delivers-take pass v may x held views h at =
      let owner = h.0 in
      let taker = h.1 in
      let senders = h.2 in
      let taken = h.3 ++ x ∷ [] in
      let was = h.5 pass v at in
      let own = was.1 may in
      let same : taken ++ held ≡ h.3 ++ x ∷ held = append_assoc h.3 (x ∷ []) held in
      let stays : (k : ℕ) (put : List T) → items_of k (h.3 ++ x ∷ held) ≡ put → items_of k (taken ++ held) ≡ put =
      λ k put e. ap (items_of k) same ∙ e in (
        after_take v x,
        (
          owner,
          taker,
          senders,
          taken,
          (λ k le. stays k [] (h.4 k le)),
          EachView-set (Fits owner taker senders taken (taken ++ held)) views pass (after_take v x) (
            (λ sends. let t = was.0 sends in (t.0, t.1, stays v.number v.put t.2)),
            λ _. (own.0, own.1, ap (λ l. l ++ x ∷ []) own.2),
          )
              (λ j u other e. (
                (λ sends. let t = (h.5 j u e).0 sends in (t.0, t.1, stays u.number u.put t.2)),
                λ s. absurd (other (sym ((h.5 j u e).1 s).0 ∙ own.0)),
              )),
        ),
        refl,
      )

  pub Delivers-balance : (pass : ℕ) (v : PassView T) → Learns Delivers pass v (Balances v)
  Delivers-balance pass v held views h at s t =
      let was = h.5 pass v at in
      ap (λ l. items_of v.number (l ++ held)) ((was.1 t).2) ∙ (was.0 s).2

  -- one more sender
  pub Delivers-new_sender : (pass : ℕ) (v : PassView T) → v.takes ≡ true →
      Forks Delivers pass v (with_one_sender_more v) (new_sender v)
  Delivers-new_sender pass v may held views h at =
      let taker = h.1 in
      let senders = h.2 in
      let taken = h.3 in
      let all = taken ++ held in
      let was = h.5 pass v at in
      let own = was.1 may in
      let rest = set views pass (with_one_sender_more v) in
      let owner = with_owner h.0 senders (length rest) in
      let count : v.senders ≡ senders = own.1 in
      let sender : (j : ℕ) (u : PassView T) → IsSenderView h.0 senders all j u →
      IsSenderView owner (senders + 1) all j u = λ j u old s.
      let t = old s in
      let lt : u.number < senders = t.1 in
      let ne : u.number ≢ senders = λ e. absurd (omega arith) in
      (owner_else h.0 senders (length rest) u.number ne ∙ t.0, omega arith, t.2) in (
        owner,
        taker,
        senders + 1,
        taken,
        (λ k le. h.4 k (omega arith)),
        EachView-push (Fits owner taker (senders + 1) taken all) rest (new_sender v)
            (EachView-set (Fits owner taker (senders + 1) taken all) views pass (with_one_sender_more v)
            (sender pass v was.0, λ _. (own.0, ap (λ k. k + 1) count, own.2))
            (λ j u other e.
            (sender j u (h.5 j u e).0, λ s. absurd (other (sym ((h.5 j u e).1 s).0 ∙ own.0))))) (
              (λ _. (
                ap owner count ∙ owner_here h.0 senders (length rest),
                omega arith,
                ap (λ k. items_of k all) count ∙ h.4 senders (omega arith),
              )),
              λ p. never p,
            ),
      )

  -- a sender's pass is joined to the taker's
  pub Delivers-lend : (pass : ℕ) (v : PassView T) (other : ℕ) (w : PassView T) → v.takes ≡ true → w.sends ≡ true →
      Merges Delivers pass v other w (with_sender v w) nobody
  Delivers-lend pass v other w may its held views h at apart at' =
      let taker = h.1 in
      let senders = h.2 in
      let taken = h.3 in
      let all = taken ++ held in
      let own = (h.5 pass v at).1 may in
      let both = with_sender v w in
      let rest = set views pass both in
      let owner = with_owner h.0 w.number pass in
      let was : get_elem? views other ≡ some w = ⊎_elim
      (λ (x : (other ≡ pass) × (both ≡ w)). absurd (apart x.0))
      (λ (x : (other ≢ pass) × (get_elem? views other ≡ some w)). x.1)
      (at_set views pass other both w at') in
      let t = (h.5 other w was).0 its in
      let Now : ℕ → PassView T → Type 0 = λ j u. j ≢ other → Fits owner taker senders taken all j u in
      let now : EachView Now rest = EachView-set Now views pass both
      (λ _. ((λ _. (owner_here h.0 w.number pass, t.1, t.2)), λ _. own))
      (λ j u _ e far. (
        (λ s.
            let o = (h.5 j u e).0 s in (
              owner_else h.0 w.number pass u.number (λ same. far (sym o.0 ∙ ap h.0 same ∙ t.0)) ∙ o.0,
              o.1,
              o.2,
            )),
        (h.5 j u e).1,
      )) in (
        owner,
        taker,
        senders,
        taken,
        h.4,
        EachView-set (Fits owner taker senders taken all) rest other nobody
            (nobody_fits owner taker senders taken all other) (λ j u far e. now j u e far),
      )

  -- the sender's pass is taken off the taker's again
  pub Delivers-give_back : (pass : ℕ) (v : PassView T) → v.sends ≡ true → v.takes ≡ true →
      Forks Delivers pass v (without_sender v) (sender_alone v)
  Delivers-give_back pass v its may held views h at =
      let taker = h.1 in
      let senders = h.2 in
      let taken = h.3 in
      let all = taken ++ held in
      let was = h.5 pass v at in
      let own = was.1 may in
      let t = was.0 its in
      let rest = set views pass (without_sender v) in
      let owner = with_owner h.0 v.number (length rest) in (
        owner,
        taker,
        senders,
        taken,
        h.4,
        EachView-push (Fits owner taker senders taken all) rest (sender_alone v)
            (EachView-set (Fits owner taker senders taken all) views pass (without_sender v) ((λ p. never p), λ _. own)
            (λ j u other e. (
              (λ s.
                  let o = (h.5 j u e).0 s in (
                    owner_else h.0 v.number (length rest) u.number
                        (λ same. other (sym o.0 ∙ ap h.0 same ∙ t.0)) ∙ o.0,
                    o.1,
                    o.2,
                  )),
              (h.5 j u e).1,
            )))
            ((λ _. (owner_here h.0 v.number (length rest), t.1, t.2)), λ p. never p),
      )
