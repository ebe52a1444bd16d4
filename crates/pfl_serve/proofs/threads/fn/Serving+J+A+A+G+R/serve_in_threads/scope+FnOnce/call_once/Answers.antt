use Rattle.pfl_serve.proofs.threads.fn.Serving+J+A+A+G+R.serve_in_threads.scope+FnOnce.call_once.Goals as goal

-- After what outlives the scope, the closure is given its own clauses, and then that its types may cross threads.
pub scope-requires : goal.scope-requires
scope-requires g c =
    let q = c.requires.1.1.1.1.1.1 in
    let s = q.1.1.1 in
    (s.0, (s.1, (s.2, (s.3, (s.4, (s.5, (s.6, (s.7, (s.8, (q.0, (q.1.0, q.1.1.0)))))))))))
