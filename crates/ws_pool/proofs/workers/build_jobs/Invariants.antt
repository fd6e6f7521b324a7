use Rattle.ws_pool.proofs.workers.build_jobs.Given as goal

abbrev pub ghosts-run_jobs : goal.ghosts-run_jobs
ghosts-run_jobs g a = record { names = a.blanks; opening = record { jobs = a.jobs.items; cache = a.cache } }
