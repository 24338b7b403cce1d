pub mod IsCall
