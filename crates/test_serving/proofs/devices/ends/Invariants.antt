use Rattle.test_serving.proofs.devices.ends.Given as goal

abbrev pub ghosts-cut_all : goal.ghosts-cut_all
ghosts-cut_all g a = record {
  publisher = a.opened.publisher;
  tallies = a.opened.tallies;
  opening = a.opened.opening;
  setup = a.opened.setup;
  limit = a.opened.limit;
}
