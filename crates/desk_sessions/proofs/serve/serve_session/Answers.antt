use Rattle.std.proofs.Common.{refl}
use Rattle.std.proofs.lemmas.Option.{IfSome_then}
use Rattle.std.proofs.lemmas.Result.{on_ok_weaker, IfErr-weaker}
use Rattle.desk_lines.specs.Lines.{lines_of}
use Rattle.desk_sessions.specs.Browsers.{EndsAtBrowserLine}
use Rattle.desk_sessions.specs.Sessions.{session_standing}
use Rattle.desk_sessions.proofs.BrowserLines.{served-none, breaks-same}
use Rattle.desk_sessions.proofs.ServedInputs.{served-map, breaks-map}
use Rattle.desk_sessions.proofs.serve.serve_session.Goals as goal

pub returns-clause-ok : goal.returns-clause-ok
returns-clause-ok g c = on_ok_weaker c.serve_lines-waiting.result.1
    (λ h. IfSome_then (g.I.Read.remaining c.args.reader.now) h (λ input k.
    served-map (λ s.
    session_standing (g.L.Line.exchanged s.session.line) s.session.reader.pass s.session.reader.failed_reads) _ _
    EndsAtBrowserLine EndsAtBrowserLine (λ s line text t m. m)
    (λ s line r t n. (n.0, n.1, rw n.2 refl)) _ _ _ _ (lines_of input) k))
    c.serve_lines-waiting.ensures.ok

pub returns-clause-err : goal.returns-clause-err
returns-clause-err g c = IfErr-weaker c.serve_lines-waiting.result.1 _ _
    (λ r h. IfSome_then (g.I.Read.remaining c.args.reader.now) h (λ input k.
    breaks-map (λ s.
    session_standing (g.L.Line.exchanged s.session.line) s.session.reader.pass s.session.reader.failed_reads) _ _
    EndsAtBrowserLine EndsAtBrowserLine (λ s line text t m. m)
    (λ s line r t n. (n.0, n.1, rw n.2 refl)) r _ _ _ _ (lines_of input) k))
    c.serve_lines-waiting.ensures.err

pub returns-clause-browser_ends : goal.returns-clause-browser_ends
returns-clause-browser_ends g c = on_ok_weaker c.serve_lines-waiting.result.1
    (λ h. IfSome_then (g.I.Read.remaining c.args.reader.now) h (λ input k.
    served-none _ EndsAtBrowserLine (λ s line text t m. m.0) (λ s line r t n. n.2) _ _ _ _ (lines_of input) k))
    c.serve_lines-waiting.ensures.ok

pub returns-clause-browser : goal.returns-clause-browser
returns-clause-browser g c = IfErr-weaker c.serve_lines-waiting.result.1 _ _
    (λ r h. IfSome_then (g.I.Read.remaining c.args.reader.now) h (λ input k first.
    let same = breaks-same _ EndsAtBrowserLine (λ s line text t m. m.0) (λ s line r t n. n.2) r _ _ _ _ (lines_of input)
    k first in
    (rw same.0 refl, same.1)))
    c.serve_lines-waiting.ensures.err
