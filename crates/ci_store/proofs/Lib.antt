mod Answering
mod Asking
mod Celled
mod Ending
mod Placed
mod Ticking
mod Whole
