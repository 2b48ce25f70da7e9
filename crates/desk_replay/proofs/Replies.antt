-- What a replay writes is the replay's text.
use Rattle.std.proofs.Common.{◌≡◌, ◌≢◌, ℕ, List, [], ◌∷◌, ◌++◌, length, take, Bool, true, false, Option}
use Rattle.std.proofs.Common.{None, Some, IfSome, Result, Ok, Err, OnOk, OnErr, IfErr, refl, sym, ap}
use Rattle.std.proofs.Common.{◌∙◌, append_assoc, append-nil, inl, inr}
use Rattle.std.specs.Io.KnownBytes.{Appends}
use Rattle.std.proofs.KnownBytes.{Appends-nil}
use mathlib.Core.List.{IsPrefix}
use Rattle.desk_types.specs.declared.refusal.Refusal.{Refusal}
use Rattle.desk_types.specs.declared.refusal.Refusal.TheVariants as refusals
use Rattle.desk_eido.specs.ReplyLine.{line_of}
use Rattle.desk_output.specs.Prefixes.{AppendsPrefix}
use Rattle.desk_lines.specs.Lines.{lines_of, is_skipped, spoken}
use Rattle.desk_output.specs.Joined.{joined}
use Rattle.desk_lines.specs.Served.{AppendsAlmost, Serves, Served, BreaksOff}
use Rattle.desk_lines.specs.FailedCalls.{IsWant, IsWantOrHandlers}
use Rattle.desk_replay.specs.BoardLog.{BoardLog}
use Rattle.desk_replay.specs.Replay.{IsReply, LacksMemory, line_answer, replies, replies_to, replay_text}
use Rattle.desk_replay.specs.Replay.{AppendsReplies}

abbrev pub start : List ℕ → BoardLog
start domain = record { domain = domain; log = [] }

replied_at : (skipped : Bool) (b c : BoardLog) (line : List ℕ) (lines texts : List (List ℕ)) →
    is_skipped line ≡ skipped →
    ((b : BoardLog) (texts : List (List ℕ)) → Serves IsReply b (spoken lines) texts c →
    joined texts ≡ replies b lines) →
    Serves IsReply b (spoken (line ∷ lines)) texts c → joined texts ≡ replies b (line ∷ lines)
replied_at true b c line lines texts e more h = rw e (more b texts (rw e at h))
replied_at false b c line lines [] e more h = absurd (rw e at h)
replied_at false b c line lines (t ∷ texts) e more h =
    let k : Serves IsReply b (line ∷ spoken lines) (t ∷ texts) c = rw e at h in
    rw (e, k.1.0) (ap (λ u. line_of (line_answer b line).outcome ++ u)
    (more k.0 texts k.2 ∙ ap (λ m. replies m lines) k.1.1))

replied : (b c : BoardLog) (lines texts : List (List ℕ)) → Serves IsReply b (spoken lines) texts c →
    joined texts ≡ replies b lines
replied b c [] [] h = refl
replied b c [] (t ∷ texts) h = absurd h
replied b c (line ∷ lines) texts h =
    replied_at _ b c line lines texts refl (λ m ts k. replied m c lines ts k) h

-- the replies to first lines begin those to all
abbrev pub RepliesBegin : BoardLog → List (List ℕ) → List (List ℕ) → Type 0
RepliesBegin b first rest = (more : List ℕ) × (replies b (first ++ rest) ≡ replies b first ++ more)

replies_begin_at : (skipped : Bool) (b : BoardLog) (line : List ℕ) (first rest : List (List ℕ)) →
    is_skipped line ≡ skipped → ((b : BoardLog) → RepliesBegin b first rest) → RepliesBegin b (line ∷ first) rest
replies_begin_at true b line first rest e h = rw e (h b)
replies_begin_at false b line first rest e h =
    let k = h (line_answer b line).after in (
      k.0,
      rw e (ap (λ u. line_of (line_answer b line).outcome ++ u) k.1
          ∙ sym (append_assoc (line_of (line_answer b line).outcome)
          (replies (line_answer b line).after first) k.0)),
    )

replies_begin : (b : BoardLog) (first rest : List (List ℕ)) → RepliesBegin b first rest
replies_begin b [] rest = (replies b rest, refl)
replies_begin b (line ∷ first) rest = replies_begin_at _ b line first rest refl (λ m. replies_begin m first rest)

joined-last : (done : List (List ℕ)) (last : List ℕ) → joined (done ++ last ∷ []) ≡ joined done ++ last
joined-last [] last = append-nil last
joined-last (t ∷ done) last = ap (λ u. t ++ u) (joined-last done last) ∙ sym (append_assoc t (joined done) last)

take-first : {A : Type 0} (first rest : List A) → take (length first) (first ++ rest) ≡ first
take-first [] rest = refl
take-first (x ∷ first) rest = ap (λ l. x ∷ l) (take-first first rest)

-- what stands after the first lines
after_first : {A : Type 0} (first asked lines : List A) → (h : IsPrefix (first ++ asked) lines) →
    lines ≡ first ++ (asked ++ h.0)
after_first first asked lines h = sym h.1 ∙ append_assoc first asked h.0

almost_prefix : (r : Refusal) (old new : Option (List ℕ)) (texts : List (List ℕ)) (more : List ℕ) →
    AppendsAlmost r old new texts → AppendsPrefix old new (joined texts ++ more)
almost_prefix r old new texts more (inl a) = (joined texts, more, refl, a)
almost_prefix r old new texts more (inr k) = (
  joined k.1 ++ k.3,
  k.4 ++ more,
  rw (k.5, joined-last k.1 k.2, k.6)
      (append_assoc (joined k.1) (k.3 ++ k.4) more
      ∙ ap (λ u. joined k.1 ++ u) (append_assoc k.3 k.4 more)
      ∙ sym (append_assoc (joined k.1) k.3 (k.4 ++ more))),
  k.7,
)

pub all_written : (domain : List ℕ) (c : BoardLog) (input old new : Option (List ℕ)) →
    IfSome input (λ xs. Served IsReply (start domain) old (lines_of xs) c new) →
    IfSome input (λ xs. Appends old new (replay_text domain xs))
unfolding replies_to
all_written domain c None old new h = tt
all_written domain c (Some input) old new h =
    rw (← replied (start domain) c (lines_of input) h.0 h.1) h.2

pub prefix_written : (domain : List ℕ) (r : Refusal) (c : BoardLog) (input old new : Option (List ℕ)) →
    IfSome input (λ xs. BreaksOff IsReply LacksMemory r (start domain) old (lines_of xs) c new) →
    IfSome input (λ xs. AppendsPrefix old new (replay_text domain xs))
unfolding replies_to
prefix_written domain r c None old new h = tt
prefix_written domain r c (Some input) old new h =
    let b = replies_begin (start domain) h.0 (h.1 ++ h.2.0) in
    let e : replies (start domain) (lines_of input) ≡ joined h.3.0 ++ b.0 =
    ap (λ l. replies (start domain) l) (after_first h.0 h.1 (lines_of input) h.2) ∙ b.1
    ∙ ap (λ u. u ++ b.0) (sym (replied (start domain) h.3.1 h.0 h.3.0 h.3.2)) in
    rw e (almost_prefix r old new h.3.0 b.0 h.3.4)

whole_at : (r : Refusal) (old new : Option (List ℕ)) (texts : List (List ℕ)) → r ≢ refusals.WriteFault →
    AppendsAlmost r old new texts → Appends old new (joined texts)
whole_at r old new texts n (inl a) = a
whole_at r old new texts n (inr k) = absurd (n k.0)

pub whole_written : (domain : List ℕ) (r : Refusal) (c : BoardLog) (input old new : Option (List ℕ)) →
    r ≢ refusals.WriteFault →
    IfSome input (λ xs. BreaksOff IsReply LacksMemory r (start domain) old (lines_of xs) c new) →
    IfSome input (λ xs. AppendsReplies old new domain xs)
unfolding replies_to
whole_written domain r c None old new n h = tt
whole_written domain r c (Some input) old new n h = (
  length h.0,
  rw (
    after_first h.0 h.1 (lines_of input) h.2,
    take-first h.0 (h.1 ++ h.2.0),
    ← replied (start domain) h.3.1 h.0 h.3.0 h.3.2,
  )
      (whole_at r old new h.3.0 n h.3.4),
)

pub nothing_prefix : (domain : List ℕ) (input old : Option (List ℕ)) →
    IfSome input (λ xs. AppendsPrefix old old (replay_text domain xs))
nothing_prefix domain None old = tt
nothing_prefix domain (Some input) old = ([], replay_text domain input, refl, Appends-nil old)

pub nothing_whole : (domain : List ℕ) (input old : Option (List ℕ)) →
    IfSome input (λ xs. AppendsReplies old old domain xs)
unfolding replies_to
nothing_whole domain None old = tt
nothing_whole domain (Some input) old = (0, Appends-nil old)

pub on_ok_map : {T E P Q : Type 0} (r : Result T E) → (P → Q) → OnOk r P → OnOk r Q
on_ok_map (Ok x) f p = f p
on_ok_map (Err e) f p = tt

pub on_err_of : {T E Q : Type 0} (P : E → Type 0) (r : Result T E) → ((e : E) → P e → Q) → IfErr r P → OnErr r Q
on_err_of P (Ok x) f p = tt
on_err_of P (Err e) f p = f e p

pub if_err_map : {T E : Type 0} (P Q : E → Type 0) (r : Result T E) → ((e : E) → P e → Q e) → IfErr r P → IfErr r Q
if_err_map P Q (Ok x) f p = tt
if_err_map P Q (Err e) f p = f e p

-- a replay's desk gives up for want of memory alone
pub want_alone : (fault : Refusal) → IsWantOrHandlers LacksMemory fault → IsWant fault
want_alone fault (inl want) = want
want_alone fault (inr gave) = gave.3.0
