-- Small scripts with their whole output, shown by the definitions.
use Rattle.std.proofs.Common.{refl, codes, false}
use Rattle.std.specs.Fmt.{digits}
use Rattle.play_report.specs.Text.{named_text, printed_text, pair_text, triple_text}
use Rattle.command_words.specs.Words.{Options}
use Rattle.gc_play.specs.RunAnswers.{IsRunAnswer}
use Rattle.play_words.proofs.LoadRows.{done, faulty}

abbrev usual : Options
usual = record { cells = 65536; workers = 4; tracers = 1; packets = 64; entries = 32; place = false }

-- an object's value is said
says : IsRunAnswer usual (codes "gcscript 1\nwarehouse\nnew x 5\nsay a x\n") 0 (codes "warehouse 1\na 5\ndropped 0\nsurvivors 1\n1 0 5\n")
unfolding digits named_text printed_text pair_text triple_text
says = done usual 3 (codes "gcscript 1\nwarehouse\nnew x 5\nsay a x\n") (codes "warehouse 1\na 5\ndropped 0\nsurvivors 1\n1 0 5\n") refl refl refl refl

-- a script without a section
nothing : IsRunAnswer usual (codes "gcscript 1\n") 0 (codes "survivors 0\n")
unfolding digits named_text printed_text pair_text triple_text
nothing = done usual 3 (codes "gcscript 1\n") (codes "survivors 0\n") refl refl refl refl

-- a circle that no variable holds
circle : IsRunAnswer usual (codes "gcscript 1\nwarehouse\nnew x 1\nnew y 2\nset x 0 y\nset y 0 x\nnil x\nnil y\ncollect\nsay a x\n") 0 (codes "warehouse 1\na nil\ndropped 0\nsurvivors 0\n")
unfolding digits named_text printed_text pair_text triple_text
circle = done usual 3 (codes "gcscript 1\nwarehouse\nnew x 1\nnew y 2\nset x 0 y\nset y 0 x\nnil x\nnil y\ncollect\nsay a x\n") (codes "warehouse 1\na nil\ndropped 0\nsurvivors 0\n") refl refl refl refl

-- walks along a field
sums : IsRunAnswer usual (codes "gcscript 1\nwarehouse\nnew x 7\nset x 0 x\nsum a x 0 0\nsum b x 0 3\nnil y\nsum c y 0 5\nnew p 1\nnew q 2\nset p 0 q\nsum d p 0 1\nsum e p 0 9\n") 0 (codes "warehouse 1\na 0 0\nb 3 21\nc 0 0\nd 1 1\ne 2 3\ndropped 0\nsurvivors 3\n1 0 7\n1 1 1\n1 2 2\n")
unfolding digits named_text printed_text pair_text triple_text
sums = done usual 3 (codes "gcscript 1\nwarehouse\nnew x 7\nset x 0 x\nsum a x 0 0\nsum b x 0 3\nnil y\nsum c y 0 5\nnew p 1\nnew q 2\nset p 0 q\nsum d p 0 1\nsum e p 0 9\n") (codes "warehouse 1\na 0 0\nb 3 21\nc 0 0\nd 1 1\ne 2 3\ndropped 0\nsurvivors 3\n1 0 7\n1 1 1\n1 2 2\n") refl refl refl refl

-- what is done on nil
nils : IsRunAnswer usual (codes "gcscript 1\nwarehouse\nnil x\nsay a x\nset x 0 x\nput x 9\nget y x 0\nsay b y\n") 0 (codes "warehouse 1\na nil\nb nil\ndropped 0\nsurvivors 0\n")
unfolding digits named_text printed_text pair_text triple_text
nils = done usual 3 (codes "gcscript 1\nwarehouse\nnil x\nsay a x\nset x 0 x\nput x 9\nget y x 0\nsay b y\n") (codes "warehouse 1\na nil\nb nil\ndropped 0\nsurvivors 0\n") refl refl refl refl

-- what a warehouse sees of the catalogue
catalogue : IsRunAnswer usual (codes "gcscript 1\ncatalogue\nnew item 40\nwarehouse\ncat i item\nset i 0 i\nput i 7\nsay a i\nnew o 1\nset o 2 i\nget j o 2\nsay b j\n") 0 (codes "warehouse 1\na 40\nb 40\ndropped 2\nsurvivors 2\n0 0 40\n1 0 1\n")
unfolding digits named_text printed_text pair_text triple_text
catalogue = done usual 3 (codes "gcscript 1\ncatalogue\nnew item 40\nwarehouse\ncat i item\nset i 0 i\nput i 7\nsay a i\nnew o 1\nset o 2 i\nget j o 2\nsay b j\n") (codes "warehouse 1\na 40\nb 40\ndropped 2\nsurvivors 2\n0 0 40\n1 0 1\n") refl refl refl refl

-- sixteen fields
sixteen : IsRunAnswer usual (codes "gcscript 2\nfields 16\nwarehouse\nnew x 1\nset x 15 x\nget y x 15\nsay a y\n") 0 (codes "warehouse 1\na 1\ndropped 0\nsurvivors 1\n1 0 1\n")
unfolding digits named_text printed_text pair_text triple_text
sixteen = done usual 3 (codes "gcscript 2\nfields 16\nwarehouse\nnew x 1\nset x 15 x\nget y x 15\nsay a y\n") (codes "warehouse 1\na 1\ndropped 0\nsurvivors 1\n1 0 1\n") refl refl refl refl

-- the catalogue from season to season
seasons : IsRunAnswer usual (codes "gcscript 3\nfields 4\ncatalogue\nnew a 1\nseason\nnew a 2\nwarehouse\ncat x a\nsay p x\nseason\nsay q x\ncat y a\nsay r y\n") 0 (codes "warehouse 1\np 1\nq 1\nr 2\ndropped 0\nsurvivors 2\n0 0 1\n0 1 2\n")
unfolding digits named_text printed_text pair_text triple_text
seasons = done usual 3 (codes "gcscript 3\nfields 4\ncatalogue\nnew a 1\nseason\nnew a 2\nwarehouse\ncat x a\nsay p x\nseason\nsay q x\ncat y a\nsay r y\n") (codes "warehouse 1\np 1\nq 1\nr 2\ndropped 0\nsurvivors 2\n0 0 1\n0 1 2\n") refl refl refl refl

-- a last line without its end
no_last_end : IsRunAnswer usual (codes "gcscript 1\nwarehouse\nnew x 5\nsay a x") 0 (codes "warehouse 1\na 5\ndropped 0\nsurvivors 1\n1 0 5\n")
unfolding digits named_text printed_text pair_text triple_text
no_last_end = done usual 3 (codes "gcscript 1\nwarehouse\nnew x 5\nsay a x") (codes "warehouse 1\na 5\ndropped 0\nsurvivors 1\n1 0 5\n") refl refl refl refl

-- names and labels that are keywords
keywords : IsRunAnswer usual (codes "gcscript 1\nwarehouse\nnew new 1\nsay say new\nnew warehouse 2\nsay # warehouse\n") 0 (codes "warehouse 1\nsay 1\n# 2\ndropped 0\nsurvivors 2\n1 0 1\n1 1 2\n")
unfolding digits named_text printed_text pair_text triple_text
keywords = done usual 3 (codes "gcscript 1\nwarehouse\nnew new 1\nsay say new\nnew warehouse 2\nsay # warehouse\n") (codes "warehouse 1\nsay 1\n# 2\ndropped 0\nsurvivors 2\n1 0 1\n1 1 2\n") refl refl refl refl

-- a fault
fault_1 : IsRunAnswer usual (codes "gcscript 1\nwarehouse\nrepeat 3\nnew x 1\n") 2 (codes "7 RepeatOpen line 3\n")
unfolding digits named_text printed_text pair_text triple_text
fault_1 = faulty usual (codes "gcscript 1\nwarehouse\nrepeat 3\nnew x 1\n") (codes "7 RepeatOpen line 3\n") refl refl

-- a fault
fault_2 : IsRunAnswer usual (codes "gcscript 1\nwarehouse\nnil a0\nnil a1\nnil a2\nnil a3\nnil a4\nnil a5\nnil a6\nnil a7\nnil a8\nnil a9\nnil a10\nnil a11\nnil a12\nnil a13\nnil a14\nnil a15\nnil a16\nnil a17\nnil a18\nnil a19\nnil a20\nnil a21\nnil a22\nnil a23\nnil a24\nnil a25\nnil a26\nnil a27\nnil a28\nnil a29\nnil a30\nnil a31\nnil a32\n") 2 (codes "5 TooManyNames line 35\n")
unfolding digits named_text printed_text pair_text triple_text
fault_2 = faulty usual (codes "gcscript 1\nwarehouse\nnil a0\nnil a1\nnil a2\nnil a3\nnil a4\nnil a5\nnil a6\nnil a7\nnil a8\nnil a9\nnil a10\nnil a11\nnil a12\nnil a13\nnil a14\nnil a15\nnil a16\nnil a17\nnil a18\nnil a19\nnil a20\nnil a21\nnil a22\nnil a23\nnil a24\nnil a25\nnil a26\nnil a27\nnil a28\nnil a29\nnil a30\nnil a31\nnil a32\n") (codes "5 TooManyNames line 35\n") refl refl

-- a fault
fault_3 : IsRunAnswer usual (codes "gcscript 1\nwarehouse\nrepeat 2000000\nnil x\nend\nnil x\n") 2 (codes "9 TooManyCommands\n")
unfolding digits named_text printed_text pair_text triple_text
fault_3 = faulty usual (codes "gcscript 1\nwarehouse\nrepeat 2000000\nnil x\nend\nnil x\n") (codes "9 TooManyCommands\n") refl refl
