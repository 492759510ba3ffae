pub mod OctetsBack
