use Rattle.plist_convert.proofs.file_disk.FileDisk.store.Given as goal

abbrev pub ghosts-write_target : goal.ghosts-write_target
ghosts-write_target g a =
    record { path = a.target.path.now; files = g.O.Opens.files a.opener.now; limit = g.O.Opens.limit a.opener.now }
