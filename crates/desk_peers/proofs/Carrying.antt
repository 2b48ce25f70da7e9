-- What connections carried of the packets that were taken so far.
use Rattle.std.proofs.Common.{map, ◌≡◌, inl, inr, ℕ, Bool, true, false, List, [], ◌∷◌, ◌++◌, Option, None, Some}
use Rattle.std.proofs.Common.{refl, sym, ap, subst, ◌∙◌, append_assoc, append-nil, IfSome}
use Rattle.std.proofs.lemmas.List.{map-append}
use Rattle.std.proofs.lemmas.List.Concat.{flat_map-append, flat_map-cons}
use Rattle.std.specs.Io.KnownBytes.{Appends}
use Rattle.std.specs.List.{flat_map}
use Rattle.desk_types.specs.declared.packet.Message.{Message}
use Rattle.desk_codec.specs.Spelling.{frame_spelling}
use Rattle.desk_frames.specs.Stream.{frames_spelling}
use Rattle.desk_frames.proofs.Receiving.{frames_append}
use Rattle.desk_output.specs.Prefixes.{AppendsPrefix}
use Rattle.desk_mailbox.specs.declared.rule.SentItem.{SentItem}
use Rattle.desk_types.specs.declared.epoch_packet.EpochPacket.{EpochPacket}
use Rattle.desk_peers.specs.declared.header.EpochHeader.{EpochHeader}
use Rattle.desk_peers.specs.Headers.{header_of, header_spelling}
use Rattle.desk_peers.specs.Incoming.{under}
use Rattle.desk_peers.specs.Links.{
  LinkState,
  StartsEmpty,
  Closes,
  text_for,
  IsReadyFor,
  IsSentOnce,
  IsSent,
  EndsLink,
}
use Rattle.desk_peers.specs.Outgoing.{Carried, stream_under, packets_of, packets_in, IsSubsequence, HasCarried}
use Rattle.desk_peers.proofs.Subsequences.{with_last, without_last}

module _ (places : ℕ) where
  -- The open connection holds its header and the frames of these packets, of which there is one at least; or there is
  -- none.
  abbrev IsCurrent : Option (EpochHeader × Option (List ℕ)) → List EpochPacket → Type 0
  IsCurrent None run = run ≡ []
  IsCurrent (Some (h, held)) run = (m : Message) × (ms : List Message) × (run ≡ map (under h) (m ∷ ms))
      × (held ≡ Some (stream_under places h (m ∷ ms)))

  -- a link over which some of the packets that were taken went, in order
  pub record Carries (start : Option (List (List ℕ))) (taken : List EpochPacket) (after : List (List ℕ))
      (current : Option (EpochHeader × Option (List ℕ))) : Type 0 where
    pub before : List (List ℕ)
    pub carried : List (Carried places)
    pub run : List EpochPacket
    pub start_is : start ≡ Some before
    pub after_is : after ≡ before ++ map (λ c. c.text) carried
    pub current_is : IsCurrent current run
    pub some : IsSubsequence (flat_map packets_of carried ++ run) taken

  -- the same, where it is known what connections carry
  abbrev pub Goes : Option (List (List ℕ)) → List EpochPacket → LinkState → Type 0
  Goes start taken link = IfSome link.closed (λ after. Carries start taken after link.current)

  -- at the start
  goes_from : (start : Option (List (List ℕ))) → Goes start [] (record { closed = start; current = None })
  goes_from None = tt
  goes_from (Some before) = record {
    before = before;
    carried = [];
    run = [];
    start_is = refl;
    after_is = sym (append-nil before);
    current_is = refl;
    some = ([], refl, refl);
  }

  pub goes_new : (start : Option (List (List ℕ))) (link : LinkState) →
      link ≡ record { closed = start; current = None } → Goes start [] link
  goes_new start link e = subst (Goes start []) (sym e) (goes_from start)

  -- the frame of one packet
  one_frame : (m : Message) → frames_spelling (m ∷ []) ≡ frame_spelling m
  one_frame m = flat_map-cons frame_spelling m [] ∙ append-nil (frame_spelling m)

  -- one packet more on a connection of a header
  stream_more : (h : EpochHeader) (ms : List Message) (m : Message) →
      stream_under places h (ms ++ m ∷ []) ≡ stream_under places h ms ++ frame_spelling m
  stream_more h ms m =
      ap (λ t. header_spelling places h ++ t)
      (frames_append ms (m ∷ []) ∙ ap (λ t. frames_spelling ms ++ t) (one_frame m))
      ∙ sym (append_assoc (header_spelling places h) (frames_spelling ms) (frame_spelling m))

  stream_one : (h : EpochHeader) (m : Message) →
      stream_under places h (m ∷ []) ≡ header_spelling places h ++ frame_spelling m
  stream_one h m = ap (λ t. header_spelling places h ++ t) (one_frame m)

  -- known bytes with more after them
  grown_known : (text more : List ℕ) (after : Option (List ℕ)) → Appends (Some text) after more →
      after ≡ Some (text ++ more)
  grown_known text more None h = absurd h
  grown_known text more (Some bytes) h = ap Some h

  grown : (held after : Option (List ℕ)) (text more : List ℕ) → held ≡ Some text → Appends held after more →
      after ≡ Some (text ++ more)
  grown held after text more e h = grown_known text more after (subst (λ b. Appends b after more) e h)

  -- A connection was closed after others, which carried packets as well.
  closed_more : (start : Option (List (List ℕ))) (before closed after : List (List ℕ)) (carried : List (Carried places))
      (c : Carried places) (text : List ℕ) (taken : List EpochPacket) → start ≡ Some before →
      closed ≡ before ++ map (λ c. c.text) carried → text ≡ c.text → after ≡ closed ++ text ∷ [] →
      IsSubsequence (flat_map packets_of carried ++ packets_of c) taken → Carries start taken after None
  closed_more start before closed after carried c text taken start_is closed_is text_is after_is some = record {
    before = before;
    carried = carried ++ c ∷ [];
    run = [];
    start_is = start_is;
    after_is = after_is ∙ ap (λ t. t ++ text ∷ []) closed_is
        ∙ append_assoc before (map (λ (c : Carried places). c.text) carried) (text ∷ [])
        ∙ ap (λ t. before ++ (map (λ (c : Carried places). c.text) carried ++ t ∷ [])) text_is
        ∙ ap (λ t. before ++ t) (sym (map-append (λ (c : Carried places). c.text) carried (c ∷ [])));
    current_is = refl;
    some = subst (λ ms. IsSubsequence ms taken)
        (ap (λ ms. flat_map packets_of carried ++ ms)
        (sym (flat_map-cons packets_of c [] ∙ append-nil (packets_of c)))
        ∙ sym (flat_map-append packets_of carried (c ∷ []))
        ∙ sym (append-nil (flat_map packets_of (carried ++ c ∷ []))))
        some;
  }

  -- what is known has one value
  one_value : {A : Type 0} (o : Option A) (a b : A) → o ≡ Some a → o ≡ Some b → a ≡ b
  one_value o a b e f = let g : Some a ≡ Some b = sym e ∙ f in cc

  -- what a link carried where it is known, by an equation
  carries_at : (start closed : Option (List (List ℕ))) (taken : List EpochPacket)
      (current : Option (EpochHeader × Option (List ℕ))) (after : List (List ℕ)) →
      IfSome closed (λ after. Carries start taken after current) → closed ≡ Some after →
      Carries start taken after current
  carries_at start closed taken current after h e =
      subst (λ c. IfSome c (λ after. Carries start taken after current)) e h

  -- the same, where it is known whether there is an open connection
  abbrev GoesWith : Option (List (List ℕ)) → List EpochPacket → Option (List (List ℕ)) →
      Option (EpochHeader × Option (List ℕ)) → Type 0
  GoesWith start taken closed current = IfSome closed (λ after. Carries start taken after current)

  -- the packet was lost without a connection
  none_more : (start closed : Option (List (List ℕ))) (taken : List EpochPacket) (p : EpochPacket)
      (current : Option (EpochHeader × Option (List ℕ))) → GoesWith start taken closed current →
      GoesWith start (taken ++ p ∷ []) closed current
  none_more start None taken p current h = tt
  none_more start (Some after) taken p current h = record {
    before = h.before;
    carried = h.carried;
    run = h.run;
    start_is = h.start_is;
    after_is = h.after_is;
    current_is = h.current_is;
    some = without_last (flat_map packets_of h.carried ++ h.run) taken p h.some;
  }

  -- one packet more went, whole or in part
  some_more : (taken : List EpochPacket) (carried : List (Carried places)) (run : List EpochPacket) (p : EpochPacket) →
      IsSubsequence (flat_map packets_of carried ++ run) taken →
      IsSubsequence (flat_map packets_of carried ++ (run ++ p ∷ [])) (taken ++ p ∷ [])
  some_more taken carried run p some =
      subst (λ ms. IsSubsequence ms (taken ++ p ∷ [])) (append_assoc (flat_map packets_of carried) run (p ∷ []))
      (with_last (flat_map packets_of carried ++ run) taken p some)

  -- it went whole, and the connection stays open
  whole_more : (start closed : Option (List (List ℕ))) (taken : List EpochPacket) (p : EpochPacket)
      (current : Option (EpochHeader × Option (List ℕ))) (after : Option (List ℕ)) →
      GoesWith start taken closed current →
      ((texts : List (List ℕ)) (run : List EpochPacket) → closed ≡ Some texts → IsCurrent current run →
      IsCurrent (Some (header_of p, after)) (run ++ p ∷ [])) →
      GoesWith start (taken ++ p ∷ []) closed (Some (header_of p, after))
  whole_more start None taken p current after h more = tt
  whole_more start (Some texts) taken p current after h more = record {
    before = h.before;
    carried = h.carried;
    run = h.run ++ p ∷ [];
    start_is = h.start_is;
    after_is = h.after_is;
    current_is = more texts h.run refl h.current_is;
    some = some_more taken h.carried h.run p h.some;
  }

  -- over the open connection
  open_is : (p : EpochPacket) (held after : Option (List ℕ)) (run : List EpochPacket) →
      IsCurrent (Some (header_of p, held)) run → Appends held after (text_for places false p) →
      IsCurrent (Some (header_of p, after)) (run ++ p ∷ [])
  open_is p held after run (m, ms, run_is, held_is) wrote =
      let h = header_of p in (
        m,
        ms ++ p.packet ∷ [],
        ap (λ t. t ++ p ∷ []) run_is ∙ sym (map-append (under h) (m ∷ ms) (p.packet ∷ [])),
        grown held after (stream_under places h (m ∷ ms)) (frame_spelling p.packet) held_is wrote
            ∙ ap Some (sym (stream_more h (m ∷ ms) p.packet)),
      )

  -- over a new one
  new_is : (p : EpochPacket) (texts : List (List ℕ)) (held after : Option (List ℕ)) (run : List EpochPacket) →
      run ≡ [] → StartsEmpty (Some texts) held → Appends held after (text_for places true p) →
      IsCurrent (Some (header_of p, after)) (run ++ p ∷ [])
  new_is p texts held after run none empty wrote =
      let h = header_of p in (
        p.packet,
        [],
        ap (λ t. t ++ p ∷ []) none,
        grown held after [] (text_for places true p) empty wrote ∙ ap Some (sym (stream_one h p.packet)),
      )

  -- It went in part, and the connection was closed.
  part_more : (start closed : Option (List (List ℕ))) (taken : List EpochPacket) (p : EpochPacket)
      (current : Option (EpochHeader × Option (List ℕ))) (after : Option (List ℕ)) (final : Option (List (List ℕ))) →
      GoesWith start taken closed current →
      ((texts : List (List ℕ)) (run : List EpochPacket) → closed ≡ Some texts → IsCurrent current run →
      (c : Carried places) × (packets_of c ≡ run ++ p ∷ []) × (after ≡ Some c.text)) →
      Closes closed after final → GoesWith start (taken ++ p ∷ []) final None
  part_more start closed taken p current after None h more closes = tt
  part_more start closed taken p current after (Some final) h more closes =
      let (texts, text, closed_is, after_is, final_is) = closes in
      let k = carries_at start closed taken current texts h closed_is in
      let (c, packets_are, holds) = more texts k.run closed_is k.current_is in
      closed_more start k.before texts final k.carried c text (taken ++ p ∷ []) k.start_is k.after_is
      (one_value after text c.text after_is holds) final_is
      (subst (λ ms. IsSubsequence (flat_map packets_of k.carried ++ ms) (taken ++ p ∷ [])) (sym packets_are)
      (some_more taken k.carried k.run p k.some))

  -- over the open connection
  open_part : (p : EpochPacket) (held after : Option (List ℕ)) (run : List EpochPacket) →
      IsCurrent (Some (header_of p, held)) run → AppendsPrefix held after (text_for places false p) →
      (c : Carried places) × (packets_of c ≡ run ++ p ∷ []) × (after ≡ Some c.text)
  open_part p held after run (m, ms, run_is, held_is) (prefix, rest, frame_is, wrote) =
      let h = header_of p in
      let text = stream_under places h (m ∷ ms) ++ prefix in
      let c : Carried places = record {
        header = h;
        whole = m ∷ ms;
        failed = Some p.packet;
        text = text;
        rest = rest;
        text_is = append_assoc (stream_under places h (m ∷ ms)) prefix rest
            ∙ ap (λ t. stream_under places h (m ∷ ms) ++ t) (sym frame_is) ∙ sym (stream_more h (m ∷ ms) p.packet);
        whole_is = λ some. (prefix, refl);
      } in (
        c,
        map-append (under h) (m ∷ ms) (p.packet ∷ []) ∙ ap (λ t. t ++ p ∷ []) (sym run_is),
        grown held after (stream_under places h (m ∷ ms)) prefix held_is wrote,
      )

  -- over a new one
  new_part : (p : EpochPacket) (texts : List (List ℕ)) (held after : Option (List ℕ)) (run : List EpochPacket) →
      run ≡ [] → StartsEmpty (Some texts) held → AppendsPrefix held after (text_for places true p) →
      (c : Carried places) × (packets_of c ≡ run ++ p ∷ []) × (after ≡ Some c.text)
  new_part p texts held after run none empty (prefix, rest, text_is, wrote) =
      let h = header_of p in
      let c : Carried places = record {
        header = h;
        whole = [];
        failed = Some p.packet;
        text = prefix;
        rest = rest;
        text_is = sym text_is ∙ sym (stream_one h p.packet);
        whole_is = λ some. absurd (some refl);
      } in (
        c,
        ap (λ t. t ++ p ∷ []) (sym none),
        grown held after [] prefix empty wrote,
      )

  -- the link was ended
  end_more : (start closed : Option (List (List ℕ))) (taken : List EpochPacket)
      (current : Option (EpochHeader × Option (List ℕ))) (final : Option (List (List ℕ))) →
      GoesWith start taken closed current → EndsLink (record { closed = closed; current = current }) final →
      GoesWith start taken final None
  end_more start closed taken None final h ends =
      subst (λ c. GoesWith start taken c None) (sym ends) h
  end_more start closed taken (Some c) None h ends = tt
  end_more start closed taken (Some (header, held)) (Some final) h ends =
      let (texts, text, closed_is, held_text, final_is) = ends in
      let k = carries_at start closed taken (Some (header, held)) texts h closed_is in
      let (m, ms, run_is, held_is) = k.current_is in
      let all = stream_under places header (m ∷ ms) in
      let c : Carried places = record {
        header = header;
        whole = m ∷ ms;
        failed = None;
        text = all;
        rest = [];
        text_is = append-nil all ∙ ap (stream_under places header) (sym (append-nil (m ∷ ms)));
        whole_is = λ some. ([], sym (append-nil all));
      } in
      closed_more start k.before texts final k.carried c text taken k.start_is k.after_is
      (one_value held text all held_text held_is) final_is
      (subst (λ ps. IsSubsequence (flat_map packets_of k.carried ++ ps) taken)
      (run_is ∙ ap (map (under header)) (sym (append-nil (m ∷ ms)))) k.some)

  -- the link before the packet
  goes_ready : (start : Option (List (List ℕ))) (taken : List EpochPacket) (h : EpochHeader)
      (old ready : LinkState) → Goes start taken old → IsReadyFor h old ready → Goes start taken ready
  goes_ready start taken h old ready goes (own, inl same) = subst (Goes start taken) (sym same) goes
  goes_ready start taken h old ready goes (own, inr (none, ends)) =
      subst (λ c. GoesWith start taken ready.closed c) (sym none)
      (end_more start old.closed taken old.current ready.closed goes ends)

  -- the packet over the link as it stands
  goes_once : (start : Option (List (List ℕ))) (taken : List EpochPacket) (p : EpochPacket)
      (old new : LinkState) (sent : Bool) → Goes start taken old → IsSentOnce places p old sent new →
      Goes start (taken ++ p ∷ []) new
  goes_once start taken p old new sent goes (inr (inr (lost, none, same))) =
      subst (Goes start (taken ++ p ∷ [])) (sym same) (none_more start old.closed taken p old.current goes)
  goes_once start taken p old new true goes (inl (held, is_open, (after, wrote, is))) =
      subst (Goes start (taken ++ p ∷ [])) (sym is)
      (whole_more start old.closed taken p (Some (header_of p, held)) after
      (subst (GoesWith start taken old.closed) is_open goes)
      (λ texts run known current. open_is p held after run current wrote))
  goes_once start taken p old new false goes (inl (held, is_open, (after, wrote, closes, none))) =
      subst (λ c. GoesWith start (taken ++ p ∷ []) new.closed c) (sym none)
      (part_more start old.closed taken p (Some (header_of p, held)) after new.closed
      (subst (GoesWith start taken old.closed) is_open goes)
      (λ texts run known current. open_part p held after run current wrote) closes)
  goes_once start taken p old new true goes (inr (inl (held, gone, empty, (after, wrote, is)))) =
      subst (Goes start (taken ++ p ∷ [])) (sym is)
      (whole_more start old.closed taken p None after (subst (GoesWith start taken old.closed) gone goes)
      (λ texts run known current. new_is p texts held after run current
      (subst (λ c. StartsEmpty c held) known empty) wrote))
  goes_once start taken p old new false goes (inr (inl (held, gone, empty, (after, wrote, closes, none)))) =
      subst (λ c. GoesWith start (taken ++ p ∷ []) new.closed c) (sym none)
      (part_more start old.closed taken p None after new.closed (subst (GoesWith start taken old.closed) gone goes)
      (λ texts run known current. new_part p texts held after run current
      (subst (λ c. StartsEmpty c held) known empty) wrote) closes)

  -- one packet more
  pub goes_on : (start : Option (List (List ℕ))) (taken : List EpochPacket) (p : EpochPacket)
      (old new : LinkState) (sent : Bool) → Goes start taken old → IsSent places p old sent new →
      Goes start (taken ++ p ∷ []) new
  goes_on start taken p old new sent goes (ready, is_ready, once) =
      goes_once start taken p ready new sent (goes_ready start taken (header_of p) old ready goes is_ready) once

  -- all packets, and the link was ended
  carried_all : (start : Option (List (List ℕ))) (taken : List EpochPacket) (final : Option (List (List ℕ))) →
      GoesWith start taken final None → HasCarried places start taken final
  carried_all start taken None h = tt
  carried_all start taken (Some after) h = (
    h.before,
    h.carried,
    h.start_is,
    h.after_is,
    subst (λ ps. IsSubsequence ps taken)
        (ap (λ run. flat_map packets_of h.carried ++ run) h.current_is
        ∙ append-nil (flat_map packets_of h.carried))
        h.some,
  )

  pub goes_to_end : (start : Option (List (List ℕ))) (taken : List EpochPacket) (link : LinkState)
      (final : Option (List (List ℕ))) → Goes start taken link → EndsLink link final →
      HasCarried places start taken final
  goes_to_end start taken link final goes ends =
      carried_all start taken final (end_more start link.closed taken link.current final goes ends)

  -- one taken item more
  pub goes_one : (start : Option (List (List ℕ))) (taken : List (SentItem EpochPacket)) (item : SentItem EpochPacket)
      (old new : LinkState) (sent : Bool) → Goes start (packets_in taken) old →
      IsSent places item.item old sent new → Goes start (packets_in (taken ++ item ∷ [])) new
  goes_one start taken item old new sent goes is =
      subst (λ ps. Goes start ps new) (sym (map-append (λ (s : SentItem EpochPacket). s.item) taken (item ∷ [])))
      (goes_on start (packets_in taken) item.item old new sent goes is)
